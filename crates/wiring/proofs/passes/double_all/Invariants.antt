use Rattle.wiring.proofs.Doublings.{Passes}
use Rattle.wiring.proofs.passes.double_all.Given as goal

abbrev pub invariant-loop-k : goal.invariant-loop-k
invariant-loop-k l = Passes l.rows l.initial.jumps l.jumps l.k
