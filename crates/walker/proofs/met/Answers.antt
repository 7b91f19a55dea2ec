-- A mark that is no place of the queue, or the place of another row, is of a row that has not been met.
use Rattle.walker.proofs.Marks.{mark_past, mark_here}
use Rattle.walker.proofs.met.Goals as goal

pub returns-then-at-filled : goal.returns-then-at-filled
returns-then-at-filled c = search mark_here

pub returns-else-at-filled : goal.returns-else-at-filled
returns-else-at-filled c = search mark_past
