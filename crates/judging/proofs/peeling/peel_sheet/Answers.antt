-- Each pass but the last takes rows away, so that they end.
use Rattle.judging.proofs.Passes.{turning_none, turning_stated, turning_more, turning_less, turning_done}
use Rattle.judging.proofs.peeling.peel_sheet.Goals as goal

pub loop-init : goal.loop-init
loop-init c = search turning_none

pub peel_pass-requires : goal.peel_pass-requires
peel_pass-requires c = search turning_stated

pub returns : goal.returns
returns c = search turning_done

pub loop-smaller : goal.loop-smaller
loop-smaller c = search turning_less

pub loop-preserved : goal.loop-preserved
loop-preserved c = search turning_more
