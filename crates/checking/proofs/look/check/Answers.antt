-- The number of the flaw that looking over gave, or done.
use Rattle.checking.proofs.Looking.{look_number, look_done}
use Rattle.checking.proofs.look.check.Goals as goal

pub returns-in-Err : goal.returns-in-Err
returns-in-Err c = search look_number

pub returns-in-Ok : goal.returns-in-Ok
returns-in-Ok c = search look_done
