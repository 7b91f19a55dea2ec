-- One input is right for a wire.
use Rattle.spoiling.proofs.Faults.{wrong_not, wrong_told}
use Rattle.spoiling.proofs.wrong_wire.Goals as goal

pub returns-else-count_of-ne1 : goal.returns-else-count_of-ne1
returns-else-count_of-ne1 c = search wrong_not

pub returns-then-count_of-ne1 : goal.returns-then-count_of-ne1
returns-then-count_of-ne1 c = search wrong_told
