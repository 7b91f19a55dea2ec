-- The inputs read so far stand at the front.
use Rattle.rules.proofs.Lists.{filled_none, filled_more, filled_room}
use Rattle.store.proofs.row.inputs_of.Goals as goal

pub loop-j-init : goal.loop-j-init
loop-j-init c = search filled_none

pub loop-j-preserved : goal.loop-j-preserved
loop-j-preserved c = search filled_more

pub returns : goal.returns
returns c = search filled_room
