use Rattle.tallying.proofs.Counting.{Summing}
use Rattle.tallying.proofs.sum_of.Given as goal

abbrev pub invariant-loop-u : goal.invariant-loop-u
invariant-loop-u g l = Summing l.n (goal.F-post g l.each) l.sum l.u
