-- The part from its first byte to its end has as many bytes as the run.
use Rattle.requests.proofs.Runs.{part_run_lem}
use Rattle.requests.proofs.run.bytes_at.Goals as goal

pub returns : goal.returns
returns c = search part_run_lem
