use Rattle.writing.proofs.Counts.{TreesSoFar}
use Rattle.writing.proofs.numbers.count_trees.Given as goal

abbrev pub invariant-loop-u : goal.invariant-loop-u
invariant-loop-u l = TreesSoFar l.cls l.n l.count l.u
