-- A row that is met and may be taken is taken.
use Rattle.judging.proofs.Inputs.{looked_other, looked_not, looked_taken}
use Rattle.judging.proofs.peeling.peel_row.Goals as goal

pub returns-then-state_of-ne1 : goal.returns-then-state_of-ne1
returns-then-state_of-ne1 c = search looked_other

pub returns-then-not-peels : goal.returns-then-not-peels
returns-then-not-peels c = search looked_not

pub returns : goal.returns
returns c = search looked_taken
