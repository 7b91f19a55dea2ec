-- The row at the place, and then its inputs.
use Rattle.walker.proofs.Visits.{visit_done}
use Rattle.walker.proofs.visit_row.Goals as goal

pub returns : goal.returns
returns c = search visit_done
