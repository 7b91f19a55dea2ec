use Rattle.answering.proofs.Answering.{read_said}
use Rattle.answering.proofs.sheet_runs.read_run.Goals as goal

pub returns : goal.returns
returns c = search read_said
