-- Reading first, then where the inputs point, by the old rule.
use Rattle.sheet.proofs.Handed.{handed_on}
use Rattle.sheet.proofs.Fronts.{read_ends, old_refused, old_somewhere, old_nowhere}
use Rattle.sheet.proofs.front.old_front.Goals as goal

pub inputs_point-requires : goal.inputs_point-requires
inputs_point-requires c = search (read_ends, c.in_ok-rows.was)

pub returns-in_err-rows : goal.returns-in_err-rows
returns-in_err-rows c = rw (handed_on _ _ c.from_residual.ensures.1) (search (old_refused, c.in_err-rows.was))

pub returns-in-Some : goal.returns-in-Some
returns-in-Some c = rw c.new.ensures (search (old_nowhere, c.in_ok-rows.was))

pub returns : goal.returns
returns c = search (old_somewhere, c.in_ok-rows.was)
