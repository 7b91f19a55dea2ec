-- The byte goes where the number ends.
use Rattle.keywriter.proofs.Writes.{five_room, wrote_five}
use Rattle.keywriter.proofs.bytes.put_five.Goals as goal

pub bounds-key-past : goal.bounds-key-past
bounds-key-past c = search five_room

pub returns : goal.returns
returns c = search wrote_five
