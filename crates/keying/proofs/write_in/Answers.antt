-- The number is held against the rows in use.
use Rattle.keying.proofs.Keying.{row_out}
use Rattle.keying.proofs.write_in.Goals as goal

pub returns-then-n-row : goal.returns-then-n-row
returns-then-n-row c = rw c.refused.ensures (search row_out)
