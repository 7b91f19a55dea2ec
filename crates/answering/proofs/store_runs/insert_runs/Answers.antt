use Rattle.answering.proofs.Answering.{insert_said}
use Rattle.answering.proofs.store_runs.insert_runs.Goals as goal

pub returns : goal.returns
returns c = search insert_said
