-- A row of the store is left, or one of the sheet, or none.
use Rattle.judging.proofs.Verdicts.{held_stored, held_sheet, held_all}
use Rattle.judging.proofs.verdict.held_rows.Goals as goal

pub returns-then-left-gt0 : goal.returns-then-left-gt0
returns-then-left-gt0 c = search held_stored

pub returns-then-leaves_some : goal.returns-then-leaves_some
returns-then-leaves_some c = search held_sheet

pub returns : goal.returns
returns c = search held_all
