use Rattle.answering.proofs.Answering.{convert_said}
use Rattle.answering.proofs.convert_runs.convert_runs.Goals as goal

pub returns-clause-convert_says : goal.returns-clause-convert_says
returns-clause-convert_says c = search convert_said
