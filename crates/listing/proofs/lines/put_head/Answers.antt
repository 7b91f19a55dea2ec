-- The place, and then the result of the insert.
use Rattle.text.proofs.Writes.{room_first}
use Rattle.listing.proofs.Putting.{told_room, told_wrote}
use Rattle.listing.proofs.lines.put_head.Goals as goal

pub put_number-past-requires : goal.put_number-past-requires
put_number-past-requires c = search room_first

pub put_numbers-requires : goal.put_numbers-requires
put_numbers-requires c = search told_room

pub returns : goal.returns
returns c = search told_wrote
