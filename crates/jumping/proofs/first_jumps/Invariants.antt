use Rattle.jumping.proofs.Ends.{Firsts}
use Rattle.jumping.proofs.first_jumps.Given as goal

abbrev pub invariant-loop-u : goal.invariant-loop-u
invariant-loop-u l = Firsts l.most l.n l.store l.initial.list l.list l.u
