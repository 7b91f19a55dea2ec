-- The part is as long as the next sheet.
use Rattle.sheet.proofs.NextLength.{next_part}
use Rattle.face.proofs.chain_next_sheet.Goals as goal

pub returns : goal.returns
returns c = search next_part
