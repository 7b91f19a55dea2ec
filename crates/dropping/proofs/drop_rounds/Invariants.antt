use Rattle.dropping.specs.Dropping.{unmarked}
use Rattle.dropping.proofs.Rounds.{Turning}
use Rattle.dropping.proofs.drop_rounds.Given as goal

abbrev pub invariant-loop : goal.invariant-loop
invariant-loop l = Turning l.most l.n l.store l.initial.list l.list

abbrev pub decreases-loop : goal.decreases-loop
decreases-loop l = unmarked l.n l.list
