-- The words past label and count.
use Rattle.store.proofs.row.input_of.Goals as goal

pub returns : goal.returns
returns c = cc
