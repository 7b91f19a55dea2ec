use Rattle.gathering.proofs.Gathering.{Freeing}
use Rattle.gathering.proofs.free_rows.Given as goal

abbrev pub invariant-loop-u : goal.invariant-loop-u
invariant-loop-u l = Freeing l.most l.k l.n l.initial.store l.store l.u
