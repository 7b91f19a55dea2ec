-- The queue's rows are rows in use.
use borrow.Author.Rules.{rules}
use Rattle.ticking.proofs.Reading.{row_low}
use Rattle.ticking.proofs.order.row_at.Goals as goal

pub returns : goal.returns
returns c = (search rules, search row_low)
