-- The digits are put.
use Rattle.text.proofs.Numbers.{digits_room, digits_wrote}
use Rattle.text.proofs.put_number.Goals as goal

pub put_text-requires : goal.put_text-requires
put_text-requires c = search digits_room

pub returns : goal.returns
returns c = search digits_wrote
