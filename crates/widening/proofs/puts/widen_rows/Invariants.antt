use Rattle.widening.proofs.Filling.{PutSoFar}
use Rattle.widening.proofs.puts.widen_rows.Given as goal

abbrev pub invariant-loop-n : goal.invariant-loop-n
invariant-loop-n l = PutSoFar l.from l.to l.old l.initial.target l.rows l.target l.n
