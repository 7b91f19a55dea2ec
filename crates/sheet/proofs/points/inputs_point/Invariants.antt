use Rattle.sheet.proofs.Scanning.{RowsScanned, InputsScanned}
use Rattle.sheet.proofs.points.inputs_point.Given as goal

abbrev pub invariant-loop-j : goal.invariant-loop-j
invariant-loop-j l = InputsScanned l.b l.rows l.limit l.stored l.i l.count l.at l.j

abbrev pub invariant-loop-i : goal.invariant-loop-i
invariant-loop-i l = RowsScanned l.b l.rows l.limit l.stored l.at l.i
