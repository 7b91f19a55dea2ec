-- Marked, a wire, or neither.
use Rattle.tallying.proofs.Counting.{wire_gone, wire_yes, wire_no}
use Rattle.tallying.proofs.one_wire.Goals as goal

pub returns-then-entry_of : goal.returns-then-entry_of
returns-then-entry_of c = search wire_gone

pub returns-then-wire_at : goal.returns-then-wire_at
returns-then-wire_at c = search wire_yes

pub returns : goal.returns
returns c = search wire_no
