-- The row that the input leads to is queued, so it has a place.
use borrow.Author.Rules.{rules}
use Rattle.walker.proofs.Visits.{row_there}
use Rattle.keywriter.proofs.Places.{input_room, input_held, input_read}
use Rattle.keywriter.proofs.reads.key_input.Goals as goal

pub input_of-x-requires : goal.input_of-x-requires
input_of-x-requires c = (search row_there, search input_room)

pub place_in-requires : goal.place_in-requires
place_in-requires c = (search rules, search input_held)

pub returns : goal.returns
returns c = (search input_read, search rules)
