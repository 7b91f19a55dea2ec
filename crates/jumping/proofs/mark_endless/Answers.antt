-- The rows so far whose jump ended in a wire are marked.
use Rattle.jumping.proofs.Ends.{ended_none, ended_asks, ended_more, ended_all}
use Rattle.jumping.proofs.mark_endless.Goals as goal

pub loop-u-init : goal.loop-u-init
loop-u-init c = search ended_none

pub mark_end-requires : goal.mark_end-requires
mark_end-requires c = search ended_asks

pub loop-u-preserved : goal.loop-u-preserved
loop-u-preserved c = search ended_more

pub returns : goal.returns
returns c = search ended_all
