-- The row's parts are what the three readers give.
use Rattle.rows.proofs.Reading.{sheet_made}
use Rattle.rows.proofs.sheet_row.Goals as goal

pub returns : goal.returns
returns c = search sheet_made
