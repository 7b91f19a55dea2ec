use Rattle.answering.proofs.Answering.{check_said}
use Rattle.answering.proofs.store_runs.check_run.Goals as goal

pub returns-clause-first : goal.returns-clause-first
returns-clause-first c = search check_said
