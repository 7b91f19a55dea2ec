-- The number and the place are those of the reading.
use Rattle.face.proofs.Reading.{read_number, read_none, refused_as, refused_at}
use Rattle.face.proofs.chain_read_sheet.Goals as goal

pub returns-in-Ok : goal.returns-in-Ok
returns-in-Ok c = (search read_number, search read_none)

pub returns-in-Err : goal.returns-in-Err
returns-in-Err c = (search refused_as, search refused_at)
