use Rattle.rounds.specs.Classes.{class_of}
use Rattle.rules.proofs.Lists.{Filled}
use Rattle.refining.proofs.settle.take_over.Given as goal

abbrev pub invariant-loop-u : goal.invariant-loop-u
invariant-loop-u l = Filled l.initial.cls (class_of l.new) l.n l.cls l.u
