-- The rows of the sheet behind have been looked at.
use Rattle.judging.proofs.Passes.{passing_last, passing_row, passing_stated, down_moved, down_kept, passed_down}
use Rattle.judging.proofs.peeling.peel_pass.Goals as goal

pub loop-u-init : goal.loop-u-init
loop-u-init c = search passing_last

pub peel_row-requires-clause-stated : goal.peel_row-requires-clause-stated
peel_row-requires-clause-stated c = search passing_stated

pub peel_row-requires-clause-u_bound : goal.peel_row-requires-clause-u_bound
peel_row-requires-clause-u_bound c = search passing_row

pub loop-u-preserved-then-peel_row : goal.loop-u-preserved-then-peel_row
loop-u-preserved-then-peel_row c = search down_moved

pub loop-u-preserved : goal.loop-u-preserved
loop-u-preserved c = search down_kept

pub returns : goal.returns
returns c = search passed_down
