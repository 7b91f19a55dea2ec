-- The place of the row that the jump names.
use borrow.Author.Rules.{rules}
use Rattle.wiring.proofs.Spotting.{spot_room, spot_there, spot_is}
use Rattle.wiring.proofs.skip.spot_at.Goals as goal

pub entry-x-requires : goal.entry-x-requires
entry-x-requires c = search spot_room

pub entry-requires : goal.entry-requires
entry-requires c = search spot_there

pub returns : goal.returns
returns c = (search spot_is, search rules)
