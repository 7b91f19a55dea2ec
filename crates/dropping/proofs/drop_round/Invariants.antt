use Rattle.dropping.proofs.Rounds.{Looking}
use Rattle.dropping.proofs.drop_round.Given as goal

abbrev pub invariant-loop-u : goal.invariant-loop-u
invariant-loop-u l = Looking l.most l.n l.store l.initial.list l.u l.list l.moved
