-- Every entry of the order is a row.
use borrow.Author.Rules.{rules}
use Rattle.appending.proofs.Reading.{row_below}
use Rattle.appending.proofs.result.row_at.Goals as goal

pub returns : goal.returns
returns c = (search rules, search row_below)
