-- The row's label and count, and the classes of its inputs.
use Rattle.signatures.proofs.Values.{row_inside, row_signed}
use Rattle.signatures.proofs.signature.signature_of.Goals as goal

pub classes_of-requires : goal.classes_of-requires
classes_of-requires c = search row_inside

pub returns : goal.returns
returns c = search row_signed
