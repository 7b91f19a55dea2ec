-- Either number is held against the rows in use.
use Rattle.parts.proofs.Parting.{part_out, whole_out, part_done}
use Rattle.parts.proofs.part_in.Goals as goal

pub returns-then-n-part : goal.returns-then-n-part
returns-then-n-part c = rw c.refused.ensures (search part_out)

pub returns-then-n-whole : goal.returns-then-n-whole
returns-then-n-whole c = rw c.refused-then-n-whole.ensures (search whole_out)

pub returns : goal.returns
returns c = search part_done
