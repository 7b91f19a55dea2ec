-- A row out of use, or the rest.
use Rattle.runner.proofs.Outcomes.{run_out}
use Rattle.runner.proofs.run_row.Goals as goal

pub returns-then-n-row : goal.returns-then-n-row
returns-then-n-row c = search run_out
