use Rattle.wiring.proofs.Doublings.{Passing}
use Rattle.wiring.proofs.passes.double.Given as goal

abbrev pub invariant-loop-i : goal.invariant-loop-i
invariant-loop-i l = Passing l.rows l.initial.jumps l.jumps l.i
