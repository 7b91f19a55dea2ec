-- A store in shape is sound where its rows are of different trees.
use Rattle.inserting.proofs.Inserting.{behind_stands, behind_twice}
use Rattle.inserting.proofs.insertion.refused_behind.Goals as goal

pub returns-then-distinct_in : goal.returns-then-distinct_in
returns-then-distinct_in c = rw c.refused.ensures (search behind_stands)

pub returns : goal.returns
returns c = rw c.refused-2.ensures (search behind_twice)
