-- The input count decides, and the one input follows it.
use borrow.Author.Rules.{rules}
use Rattle.wiring.proofs.Placing.{placed_count, wire_short, wire_input, wire_to}
use Rattle.wiring.proofs.first.wire_leads.Goals as goal

pub byte-requires : goal.byte-requires
byte-requires c = search placed_count

pub returns-then-byte-ne1 : goal.returns-then-byte-ne1
returns-then-byte-ne1 c = search wire_short

pub input-requires : goal.input-requires
input-requires c = (search wire_input, search rules)

pub returns : goal.returns
returns c = search wire_to
