-- The row is there.
use Rattle.walker.proofs.Visits.{row_there}
use Rattle.walker.proofs.count_in.Goals as goal

pub count_of-requires : goal.count_of-requires
count_of-requires c = search row_there
