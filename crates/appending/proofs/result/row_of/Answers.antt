-- The row that stands at the place.
use Rattle.appending.proofs.Reading.{own_drawn, row_below, own_here}
use Rattle.appending.proofs.result.row_of.Goals as goal

pub read_drawn-requires : goal.read_drawn-requires
read_drawn-requires c = (search own_drawn, search row_below)

pub returns : goal.returns
returns c = search own_here
