-- The row's parts are what the three readers give.
use Rattle.store.proofs.Rows.{row_made}
use Rattle.store.proofs.row.read_row.Goals as goal

pub returns : goal.returns
returns c = search row_made
