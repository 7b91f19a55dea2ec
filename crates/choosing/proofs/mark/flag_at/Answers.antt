-- The class of a row is a row.
use Rattle.choosing.proofs.Marks.{flag_made}
use Rattle.choosing.proofs.mark.flag_at.Goals as goal

pub returns : goal.returns
returns c = search flag_made
