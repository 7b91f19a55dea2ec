-- The row is read, and its inputs are looked up.
use Rattle.gathering.proofs.Moving.{moved_inputs, moved_made}
use Rattle.gathering.proofs.moved_row.Goals as goal

pub listed_inputs-requires : goal.listed_inputs-requires
listed_inputs-requires c = search moved_inputs

pub returns : goal.returns
returns c = search moved_made
