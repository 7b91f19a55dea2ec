-- The capacity, or the count.
use Rattle.mender.proofs.Outcomes.{taken_over_lem, taken_rows}
use Rattle.mender.proofs.mending.rows_taken.Goals as goal

pub returns-then-capacity-rows : goal.returns-then-capacity-rows
returns-then-capacity-rows c = search taken_over_lem

pub returns : goal.returns
returns c = search taken_rows
