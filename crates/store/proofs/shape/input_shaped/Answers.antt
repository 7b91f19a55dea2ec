-- The input's place below the count or not says which test it has.
use Rattle.store.proofs.Shapes.{used_says, unused_says}
use Rattle.store.proofs.shape.input_shaped.Goals as goal

pub returns-then-j-count_of : goal.returns-then-j-count_of
returns-then-j-count_of c = search used_says

pub returns-else-j-count_of : goal.returns-else-j-count_of
returns-else-j-count_of c = search unused_says
