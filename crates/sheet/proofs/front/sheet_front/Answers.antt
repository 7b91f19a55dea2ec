-- Reading first, then where the inputs point.
use Rattle.sheet.proofs.Handed.{handed_on}
use Rattle.sheet.proofs.Fronts.{read_refused, read_ends, points_somewhere, points_astray}
use Rattle.sheet.proofs.front.sheet_front.Goals as goal

pub inputs_point-requires : goal.inputs_point-requires
inputs_point-requires c = search (read_ends, c.in_ok-rows.was)

pub astray-requires : goal.astray-requires
astray-requires c = search (points_astray, c.in_ok-rows.was)

pub returns-in_err-rows : goal.returns-in_err-rows
returns-in_err-rows c = rw (handed_on _ _ c.from_residual.ensures.1) (search (read_refused, c.in_err-rows.was))

pub returns-in-None : goal.returns-in-None
returns-in-None c = search (points_somewhere, c.in_ok-rows.was)
