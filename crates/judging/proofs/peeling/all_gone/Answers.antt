-- The inputs looked at so far are gone.
use Rattle.judging.proofs.Inputs.{gone_none, input_there, input_room, gone_more, gone_not, gone_all}
use Rattle.judging.proofs.peeling.all_gone.Goals as goal

pub loop-j-init : goal.loop-j-init
loop-j-init c = search gone_none

pub bounds-inputs-j : goal.bounds-inputs-j
bounds-inputs-j c = search input_room

pub state_of-requires : goal.state_of-requires
state_of-requires c = search input_there

pub returns-then-state_of-ne2 : goal.returns-then-state_of-ne2
returns-then-state_of-ne2 c = search gone_not

pub loop-j-preserved : goal.loop-j-preserved
loop-j-preserved c = search gone_more

pub returns : goal.returns
returns c = search gone_all
