-- So many passes have been made.
use Rattle.jumping.proofs.Passes.{turning_none, turning_named, turning_more, turning_marks, turning_all}
use Rattle.jumping.proofs.double_all.Goals as goal

pub loop-init : goal.loop-init
loop-init c = search turning_none

pub double-requires : goal.double-requires
double-requires c = search turning_named

pub loop-preserved : goal.loop-preserved
loop-preserved c = search turning_more

pub returns : goal.returns
returns c = (search turning_named, search turning_marks, search turning_all)
