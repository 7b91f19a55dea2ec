use Rattle.wiring.proofs.Filling.{FilledTo}
use Rattle.wiring.proofs.first.fill_jumps.Given as goal

abbrev pub invariant-loop-i : goal.invariant-loop-i
invariant-loop-i l = FilledTo l.bytes l.table l.initial.jumps l.n l.jumps l.i
