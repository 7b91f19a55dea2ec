use Rattle.answering.proofs.Answering.{mend_said}
use Rattle.answering.proofs.mend_runs.mend_runs.Goals as goal

pub returns : goal.returns
returns c = search mend_said
