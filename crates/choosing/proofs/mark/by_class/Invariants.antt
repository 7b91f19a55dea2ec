use Rattle.choosing.proofs.Marks.{Marking}
use Rattle.choosing.proofs.mark.by_class.Given as goal

abbrev pub invariant-loop-u : goal.invariant-loop-u
invariant-loop-u l = Marking l.n l.cls l.links l.initial.marks l.marks l.u
