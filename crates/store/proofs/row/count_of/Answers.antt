-- The row's second word.
use Rattle.store.proofs.row.count_of.Goals as goal

pub returns : goal.returns
returns c = cc
