use Rattle.spoiling.specs.Own.{OwnMarked}
use Rattle.spoiling.proofs.mark_own.Given as goal

abbrev pub invariant-loop-u : goal.invariant-loop-u
invariant-loop-u l = OwnMarked l.most l.n l.store l.initial.list l.list l.u
