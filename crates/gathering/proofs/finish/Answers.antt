-- The rows are freed, and word 0 is nobody's row.
use Rattle.gathering.proofs.Gathering.{finish_all}
use Rattle.gathering.proofs.finish.Goals as goal

pub returns : goal.returns
returns c = search finish_all
