-- The input count of the row at the place, which a shaped store keeps within the limit.
use Rattle.walker.proofs.Visits.{row_there}
use Rattle.keywriter.proofs.Places.{count_read, count_few}
use Rattle.keywriter.proofs.reads.key_count.Goals as goal

pub count_of-requires : goal.count_of-requires
count_of-requires c = search row_there

pub returns : goal.returns
returns c = (search count_read, search count_few)
