-- A wire leads to its input; any other row stays.
use Rattle.jumping.proofs.Ends.{next_wire, next_plain}
use Rattle.jumping.proofs.next_of.Goals as goal

pub returns-then-wire_at : goal.returns-then-wire_at
returns-then-wire_at c = search next_wire

pub returns : goal.returns
returns c = search next_plain
