-- Each round but the last marks a row more, so that they end.
use Rattle.dropping.proofs.Rounds.{turning_none, turning_more, turning_done}
use Rattle.dropping.proofs.drop_rounds.Goals as goal

pub loop-init : goal.loop-init
loop-init c = search turning_none

pub returns : goal.returns
returns c = search turning_done

pub loop-preserved : goal.loop-preserved
loop-preserved c = search turning_more
