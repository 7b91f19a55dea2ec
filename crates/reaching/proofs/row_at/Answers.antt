-- The sheet's rows first.
use borrow.Author.Rules.{rules}
use Rattle.reaching.proofs.Meeting.{at_sheet, at_queued, at_low}
use Rattle.reaching.proofs.row_at.Goals as goal

pub returns-then-k-rows : goal.returns-then-k-rows
returns-then-k-rows c = (search at_sheet, search rules)

pub returns : goal.returns
returns c = (search at_queued, search at_low)
