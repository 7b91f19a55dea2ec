use Rattle.answering.proofs.Answering.{write_said}
use Rattle.answering.proofs.key_runs.key_runs.Goals as goal

pub returns-clause-write_says : goal.returns-clause-write_says
returns-clause-write_says c = search write_said
