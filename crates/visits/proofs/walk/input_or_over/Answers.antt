-- An input of a row is a row.
use Rattle.visits.proofs.Visits.{input_room, input_there, input_over}
use Rattle.visits.proofs.walk.input_or_over.Goals as goal

pub bounds-inputs-j : goal.bounds-inputs-j
bounds-inputs-j c = search input_room

pub returns-then-j-row : goal.returns-then-j-row
returns-then-j-row c = search input_there

pub returns : goal.returns
returns c = search input_over
