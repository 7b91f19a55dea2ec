-- The row by value says whether it is listed and which rows are met.
use borrow.Author.Rules.{rules}
use Rattle.judging.proofs.Inputs.{inputs_asked, row_unlisted, row_visited}
use Rattle.judging.proofs.meeting.meet_row.Goals as goal

pub returns-then-not-listed : goal.returns-then-not-listed
returns-then-not-listed c = search row_unlisted

pub meet_inputs-requires : goal.meet_inputs-requires
meet_inputs-requires c = (search rules, search inputs_asked)

pub returns : goal.returns
returns c = search row_visited
