-- The rows below u have the states that they begin with.
use Rattle.judging.proofs.Marking.{marking_none, marking_there, marking_more, marking_all}
use Rattle.judging.proofs.starts.mark_starts.Goals as goal

pub loop-u-init : goal.loop-u-init
loop-u-init c = search marking_none

pub bounds-state-u : goal.bounds-state-u
bounds-state-u c = search marking_there

pub loop-u-preserved : goal.loop-u-preserved
loop-u-preserved c = search marking_more

pub returns : goal.returns
returns c = search marking_all
