-- One more where the row is its own class.
use Rattle.writing.proofs.Counts.{count_first, count_known}
use Rattle.writing.proofs.numbers.count_row.Goals as goal

pub returns-then-entry-u : goal.returns-then-entry-u
returns-then-entry-u c = search count_first

pub returns-else-entry-u : goal.returns-else-entry-u
returns-else-entry-u c = search count_known
