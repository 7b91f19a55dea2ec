-- Over the limit, a wrong wire, or an input astray.
use Rattle.spoiling.proofs.Faults.{own_crowded, own_wrong, own_told}
use Rattle.spoiling.proofs.row_spoiled.Goals as goal

pub returns-then-most-count_of : goal.returns-then-most-count_of
returns-then-most-count_of c = search own_crowded

pub returns-then-wrong_wire : goal.returns-then-wrong_wire
returns-then-wrong_wire c = search own_wrong

pub returns-else-wrong_wire : goal.returns-else-wrong_wire
returns-else-wrong_wire c = search own_told
