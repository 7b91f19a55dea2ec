use Rattle.answering.proofs.Answering.{key_said}
use Rattle.answering.proofs.key_runs.is_key_run.Goals as goal

pub returns : goal.returns
returns c = search key_said
