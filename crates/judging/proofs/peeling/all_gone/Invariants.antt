use Rattle.judging.specs.Rules.{AllGone}
use Rattle.judging.proofs.peeling.all_gone.Given as goal

abbrev pub invariant-loop-j : goal.invariant-loop-j
invariant-loop-j l = AllGone l.state l.inputs l.j
