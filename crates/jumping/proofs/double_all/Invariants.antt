use Rattle.jumping.proofs.Passes.{Turning}
use Rattle.jumping.proofs.double_all.Given as goal

abbrev pub invariant-loop : goal.invariant-loop
invariant-loop l = Turning l.n l.initial.list l.list l.counter
