-- The names of the inputs, as far as the row has them.
use Rattle.naming.proofs.Entries.{entries_inside, named_signed}
use Rattle.naming.proofs.naming.name_signature.Goals as goal

pub names_of-requires : goal.names_of-requires
names_of-requires c = search entries_inside

pub returns : goal.returns
returns c = search named_signed
