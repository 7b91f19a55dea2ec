use Rattle.renumbering.proofs.Giving.{Giving}
use Rattle.renumbering.proofs.number.Given as goal

abbrev pub invariant-loop-u : goal.invariant-loop-u
invariant-loop-u l = Giving l.n l.cls l.initial.list l.initial.numbers l.list l.numbers l.k l.u
