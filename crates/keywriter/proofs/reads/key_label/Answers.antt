-- The label of the row at the place.
use borrow.Author.Rules.{rules}
use Rattle.walker.proofs.Visits.{row_there}
use Rattle.keywriter.proofs.Places.{label_read}
use Rattle.keywriter.proofs.reads.key_label.Goals as goal

pub label_of-requires : goal.label_of-requires
label_of-requires c = search row_there

pub returns : goal.returns
returns c = (search label_read, search rules)
