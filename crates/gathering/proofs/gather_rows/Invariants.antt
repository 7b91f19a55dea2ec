use Rattle.gathering.proofs.Gathering.{Gathering}
use Rattle.gathering.proofs.gather_rows.Given as goal

abbrev pub invariant-loop-u : goal.invariant-loop-u
invariant-loop-u l = Gathering l.most l.n l.list l.initial.store l.store l.k l.u
