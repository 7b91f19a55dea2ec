-- The sheet's row is read, and its inputs are numbered.
use Rattle.writing.proofs.Inputs.{seen_there, seen_inputs, seen_made}
use Rattle.writing.proofs.row.new_row.Goals as goal

pub sheet_row-row-requires : goal.sheet_row-row-requires
sheet_row-row-requires c = search seen_there

pub numbered-requires : goal.numbered-requires
numbered-requires c = search seen_inputs

pub returns : goal.returns
returns c = search seen_made
