use Rattle.refining.proofs.Differing.{SameSoFar}
use Rattle.refining.proofs.settle.differ.Given as goal

abbrev pub invariant-loop-u : goal.invariant-loop-u
invariant-loop-u l = SameSoFar l.cls l.new l.u
