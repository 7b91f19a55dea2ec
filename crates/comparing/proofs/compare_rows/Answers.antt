-- Either number is held against the rows in use of its store.
use Rattle.comparing.proofs.Trees.{row_out, other_out, compared}
use Rattle.comparing.proofs.compare_rows.Goals as goal

pub returns-then-n-row : goal.returns-then-n-row
returns-then-n-row c = rw c.refused.ensures (search row_out)

pub returns-then-m-other : goal.returns-then-m-other
returns-then-m-other c = rw c.refused-then-m-other.ensures (search other_out)

pub returns : goal.returns
returns c = search compared
