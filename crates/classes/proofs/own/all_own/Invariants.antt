use Rattle.classes.specs.Own.{OwnClasses}
use Rattle.classes.proofs.own.all_own.Given as goal

abbrev pub invariant-loop-u : goal.invariant-loop-u
invariant-loop-u l = OwnClasses l.u l.cls
