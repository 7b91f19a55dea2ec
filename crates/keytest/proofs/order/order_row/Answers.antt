-- The inputs before have been met, and the rows met are the first ones.
use Rattle.keytest.proofs.Scanning.{scan_few, scan_none, scan_more_lem, scan_broken, scan_all}
use Rattle.keytest.proofs.order.order_row.Goals as goal

pub shared_ref_as_front-inputs : goal.shared_ref_as_front-inputs
shared_ref_as_front-inputs c = search scan_few

pub loop-input-init : goal.loop-input-init
loop-input-init c = search scan_none

pub returns-in_err-met : goal.returns-in_err-met
returns-in_err-met c = rw c.from_residual.ensures (search (scan_broken, c.in_err-met.was))

pub loop-input-preserved : goal.loop-input-preserved
loop-input-preserved c = search (scan_more_lem, c.in_ok-met.was)

pub returns : goal.returns
returns c = search scan_all
