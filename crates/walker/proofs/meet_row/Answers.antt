-- A row that has not been met has room in the queue.
use Rattle.walker.proofs.Marks.{meet_known, meet_space, meet_fresh}
use Rattle.walker.proofs.meet_row.Goals as goal

pub returns-then-met : goal.returns-then-met
returns-then-met c = search meet_known

pub bounds-queue-filled : goal.bounds-queue-filled
bounds-queue-filled c = search meet_space

pub returns : goal.returns
returns c = search meet_fresh
