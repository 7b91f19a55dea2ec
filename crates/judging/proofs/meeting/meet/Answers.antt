-- Met before, or now and behind the others.
use Rattle.judging.proofs.Queueing.{meet_there, meet_before, meet_short, meet_space, meet_now}
use Rattle.judging.proofs.meeting.meet.Goals as goal

pub state_of-requires : goal.state_of-requires
state_of-requires c = search meet_there

pub returns-then-state_of-ne0 : goal.returns-then-state_of-ne0
returns-then-state_of-ne0 c = search meet_before

pub bounds-state-x : goal.bounds-state-x
bounds-state-x c = search meet_there

pub overflow_cast-queue : goal.overflow_cast-queue
overflow_cast-queue c = search meet_short

pub bounds-queue-filled : goal.bounds-queue-filled
bounds-queue-filled c = search meet_space

pub returns : goal.returns
returns c = search meet_now
