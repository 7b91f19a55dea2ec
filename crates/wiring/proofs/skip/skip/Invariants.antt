use Rattle.wiring.proofs.Spotting.{SkippedTo}
use Rattle.wiring.proofs.skip.skip.Given as goal

abbrev pub invariant-loop-i : goal.invariant-loop-i
invariant-loop-i l = SkippedTo l.initial.table l.jumps l.n l.table l.i
