use Rattle.sheet.proofs.Reading.{ReadSoFar}
use Rattle.sheet.proofs.reader.read_rows.Given as goal

abbrev pub invariant-loop-i : goal.invariant-loop-i
invariant-loop-i l = ReadSoFar l.b l.most l.rows l.at l.i
