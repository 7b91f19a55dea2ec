use Rattle.answering.proofs.Answering.{part_said}
use Rattle.answering.proofs.row_runs.part_run.Goals as goal

pub returns-clause-part_says : goal.returns-clause-part_says
returns-clause-part_says c = search part_said
