-- The count of the row by value.
use Rattle.appending.proofs.Reading.{count_read, count_few}
use Rattle.appending.proofs.result.count_of.Goals as goal

pub returns : goal.returns
returns c = (search count_read, search count_few)
