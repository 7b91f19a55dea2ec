-- Wires followed, and what reaches their loops.
use Rattle.marking.proofs.Marks.{half_jumps, rows_marked}
use Rattle.marking.proofs.mark_looping.Goals as goal

pub lead-requires : goal.lead-requires
lead-requires c = search half_jumps

pub returns : goal.returns
returns c = search rows_marked
