-- A hold's input before, or the result of what was read of the row.
use Rattle.ticking.proofs.Ticks.{row_held, row_told}
use Rattle.walker.proofs.Visits.{row_there}
use Rattle.ticking.proofs.tick.row_now.Goals as goal

pub label_of-label-requires : goal.label_of-label-requires
label_of-label-requires c = search row_there

pub returns-then-label-eq-HOLD : goal.returns-then-label-eq-HOLD
returns-then-label-eq-HOLD c = search row_held

pub returns : goal.returns
returns c = search row_told
