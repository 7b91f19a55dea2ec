-- The jumps passed are of twice as many wires.
use Rattle.jumping.proofs.Passes.{passing_none, passing_asks, passing_more, passing_named, passing_marks, passing_all}
use Rattle.jumping.proofs.double.Goals as goal

pub loop-u-init : goal.loop-u-init
loop-u-init c = search passing_none

pub jump_on-requires : goal.jump_on-requires
jump_on-requires c = search passing_asks

pub loop-u-preserved : goal.loop-u-preserved
loop-u-preserved c = search passing_more

pub returns : goal.returns
returns c = (search passing_named, search passing_marks, search passing_all)
