-- A store with words has a capacity.
use Rattle.inserting.proofs.Backing.{room_none, room_says}
use Rattle.inserting.proofs.insertion.has_room.Goals as goal

pub returns-in_default : goal.returns-in_default
returns-in_default c = search room_none

pub returns : goal.returns
returns c = search room_says
