-- A row has a link.
use Rattle.visits.proofs.Visits.{row_link}
use Rattle.visits.proofs.walk.up.Goals as goal

pub entry-back-requires : goal.entry-back-requires
entry-back-requires c = search row_link
