-- The length decides between 10 and the key.
use Rattle.keying.proofs.Keying.{walked_held, key_short, key_written_lem}
use Rattle.keying.proofs.write_walked.Goals as goal

pub sheet_length-need-requires : goal.sheet_length-need-requires
sheet_length-need-requires c = search walked_held

pub returns-then-key-need : goal.returns-then-key-need
returns-then-key-need c = rw c.refused.ensures (search key_short)

pub write_sheet-requires-clause-held : goal.write_sheet-requires-clause-held
write_sheet-requires-clause-held c = search walked_held

pub returns : goal.returns
returns c = search key_written_lem
