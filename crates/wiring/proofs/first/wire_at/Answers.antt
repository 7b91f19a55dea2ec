-- The label stands at the row's place.
use Rattle.wiring.proofs.Placing.{placed_label, wire_told}
use Rattle.wiring.proofs.first.wire_at.Goals as goal

pub four-requires : goal.four-requires
four-requires c = search placed_label

pub returns : goal.returns
returns c = search wire_told
