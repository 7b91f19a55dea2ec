-- The inputs numbered so far stand at the front.
use Rattle.rules.proofs.Lists.{filled_none, filled_room}
use Rattle.writing.proofs.Inputs.{input_there, input_more}
use Rattle.writing.proofs.row.numbered.Goals as goal

pub loop-j-init : goal.loop-j-init
loop-j-init c = search filled_none

pub number_of-requires : goal.number_of-requires
number_of-requires c = search input_there

pub loop-j-preserved : goal.loop-j-preserved
loop-j-preserved c = search input_more

pub returns : goal.returns
returns c = search filled_room
