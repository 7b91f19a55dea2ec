-- A used input of a shaped store is a row in use.
use borrow.Author.Rules.{rules}
use Rattle.walker.proofs.Visits.{row_there, row_room, row_input}
use Rattle.walker.proofs.input_in.Goals as goal

pub input_of-requires : goal.input_of-requires
input_of-requires c = (search row_there, search row_room)

pub returns : goal.returns
returns c = (search rules, search row_input)
