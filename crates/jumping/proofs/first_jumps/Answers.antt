-- The rows so far have their first jump.
use Rattle.jumping.proofs.Ends.{firsts_none, firsts_asks, firsts_more, firsts_named, firsts_marks, firsts_jumps}
use Rattle.jumping.proofs.first_jumps.Goals as goal

pub loop-u-init : goal.loop-u-init
loop-u-init c = search firsts_none

pub first_jump-requires : goal.first_jump-requires
first_jump-requires c = search firsts_asks

pub loop-u-preserved : goal.loop-u-preserved
loop-u-preserved c = search firsts_more

pub returns : goal.returns
returns c = (search firsts_named, search firsts_marks, search firsts_jumps)
