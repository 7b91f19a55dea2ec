-- The row by value says which rows are met.
use borrow.Author.Rules.{rules}
use Rattle.reaching.proofs.Meeting.{row_few, row_visited}
use Rattle.reaching.proofs.visit.Goals as goal

pub meet_inputs-requires : goal.meet_inputs-requires
meet_inputs-requires c = (search rules, search row_few)

pub returns : goal.returns
returns c = search row_visited
