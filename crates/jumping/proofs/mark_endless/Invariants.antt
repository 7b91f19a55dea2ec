use Rattle.jumping.specs.Jumps.{Ended}
use Rattle.jumping.proofs.mark_endless.Given as goal

abbrev pub invariant-loop-u : goal.invariant-loop-u
invariant-loop-u l = Ended l.most l.n l.store l.initial.list l.list l.u
