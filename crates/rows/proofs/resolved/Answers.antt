-- An input below the count leads somewhere; the others are zero.
use Rattle.rows.proofs.Inputs.{resolved_used, resolved_unused}
use Rattle.rows.proofs.resolved.Goals as goal

pub returns-then-j-count : goal.returns-then-j-count
returns-then-j-count c = search resolved_used

pub returns : goal.returns
returns c = search resolved_unused
