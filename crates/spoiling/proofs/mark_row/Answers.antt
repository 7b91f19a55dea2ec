-- The row is marked, or its entry is 0.
use Rattle.spoiling.proofs.Faults.{mark_yes, mark_no}
use Rattle.spoiling.proofs.mark_row.Goals as goal

pub returns-then-row_spoiled : goal.returns-then-row_spoiled
returns-then-row_spoiled c = search mark_yes

pub returns-else-row_spoiled : goal.returns-else-row_spoiled
returns-else-row_spoiled c = search mark_no
