-- The store first.
use Rattle.runner.proofs.Outcomes.{run_store}
use Rattle.checking.proofs.Looking.{checked_sound}
use Rattle.runner.proofs.run.Goals as goal

pub run_row-requires : goal.run_row-requires
run_row-requires c = search checked_sound

pub returns-in-Err : goal.returns-in-Err
returns-in-Err c = search run_store
