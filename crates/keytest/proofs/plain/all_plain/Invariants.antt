use Rattle.keytest.proofs.Boxes.{PlainTo}
use Rattle.keytest.proofs.plain.all_plain.Given as goal

abbrev pub invariant-loop-i : goal.invariant-loop-i
invariant-loop-i l = PlainTo l.bytes l.table l.n l.i
