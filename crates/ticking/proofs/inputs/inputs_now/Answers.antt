-- The inputs read so far stand at the front.
use Rattle.ticking.proofs.Reading.{gather_none, gather_more, gather_all}
use Rattle.ticking.proofs.inputs.inputs_now.Goals as goal

pub loop-j-init : goal.loop-j-init
loop-j-init c = search gather_none

pub loop-j-preserved : goal.loop-j-preserved
loop-j-preserved c = search gather_more

pub returns : goal.returns
returns c = search gather_all
