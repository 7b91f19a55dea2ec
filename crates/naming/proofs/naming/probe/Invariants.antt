use Rattle.rows.specs.Joined.{source_of, joined}
use Rattle.naming.proofs.Names.{ProbedTo}
use Rattle.naming.proofs.naming.probe.Given as goal

abbrev pub invariant-loop-k : goal.invariant-loop-k
invariant-loop-k l = ProbedTo (joined (source_of l.view)) l.cls l.links l.u l.k
