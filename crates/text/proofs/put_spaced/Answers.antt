-- The space, and then the number.
use Rattle.text.proofs.Numbers.{spaced_room, spaced_wrote}
use Rattle.text.proofs.put_spaced.Goals as goal

pub put_number-requires : goal.put_number-requires
put_number-requires c = search spaced_room

pub returns : goal.returns
returns c = search spaced_wrote
