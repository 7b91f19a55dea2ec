-- The length decides between 10 and the result.
use Rattle.converter.proofs.Converting.{too_short, converted_done}
use Rattle.converter.proofs.finish.Goals as goal

pub returns-then-out-need : goal.returns-then-out-need
returns-then-out-need c = rw c.refused.ensures (search too_short)

pub returns : goal.returns
returns c = search converted_done
