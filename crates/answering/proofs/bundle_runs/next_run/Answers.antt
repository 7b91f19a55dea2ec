use Rattle.answering.proofs.Answering.{next_said}
use Rattle.answering.proofs.bundle_runs.next_run.Goals as goal

pub returns : goal.returns
returns c = search next_said
