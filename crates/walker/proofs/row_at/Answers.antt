-- Rows in the queue are rows in use.
use borrow.Author.Rules.{rules}
use Rattle.walker.proofs.Marks.{queue_row}
use Rattle.walker.proofs.row_at.Goals as goal

pub returns : goal.returns
returns c = (search rules, search queue_row)
