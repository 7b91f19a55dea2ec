-- The inputs so far stand at the front.
use Rattle.rules.proofs.Lists.{filled_none, filled_room}
use Rattle.gathering.proofs.Moving.{input_more}
use Rattle.gathering.proofs.listed_inputs.Goals as goal

pub loop-j-init : goal.loop-j-init
loop-j-init c = search filled_none

pub loop-j-preserved : goal.loop-j-preserved
loop-j-preserved c = search input_more

pub returns : goal.returns
returns c = search filled_room
