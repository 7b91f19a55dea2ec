-- Where nothing moved the classes stand.
use Rattle.refining.proofs.Differing.{settle_still, settle_row}
use Rattle.refining.proofs.settle.settle.Goals as goal

pub returns-in_err-u : goal.returns-in_err-u
returns-in_err-u c = rw c.from_residual.ensures (settle_still _ _ _ _ c.differ.ensures c.in_err-u.was)

pub returns : goal.returns
returns c = settle_row _ _ _ _ c.differ.ensures _ _ c.in_ok-u.was c.take_over.ensures
