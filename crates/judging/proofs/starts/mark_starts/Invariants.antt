use Rattle.judging.proofs.Marking.{Marking}
use Rattle.judging.proofs.starts.mark_starts.Given as goal

abbrev pub invariant-loop-u : goal.invariant-loop-u
invariant-loop-u l = Marking l.from l.to l.initial.state l.u l.state
