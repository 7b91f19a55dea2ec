use Rattle.jumping.proofs.Passes.{Passing}
use Rattle.jumping.proofs.double.Given as goal

abbrev pub invariant-loop-u : goal.invariant-loop-u
invariant-loop-u l = Passing l.n l.initial.list l.list l.u
