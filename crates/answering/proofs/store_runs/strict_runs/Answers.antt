use Rattle.answering.proofs.Answering.{strict_said}
use Rattle.answering.proofs.store_runs.strict_runs.Goals as goal

pub returns : goal.returns
returns c = search strict_said
