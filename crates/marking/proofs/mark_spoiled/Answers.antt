-- Rows spoiled by themselves, and what reaches them.
use Rattle.marking.proofs.Marks.{half_marked, half_stands}
use Rattle.marking.proofs.mark_spoiled.Goals as goal

pub returns : goal.returns
returns c = (search half_marked, search half_stands)
