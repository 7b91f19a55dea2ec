-- The row's first word.
use Rattle.store.proofs.row.label_of.Goals as goal

pub returns : goal.returns
returns c = cc
