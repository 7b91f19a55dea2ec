-- 19 before 6.
use Rattle.sheet.proofs.Fronts.{astray_ends, astray_six, astray_names}
use Rattle.sheet.proofs.front.astray.Goals as goal

pub inputs_point-requires : goal.inputs_point-requires
inputs_point-requires c = search astray_ends

pub returns-then-is_some : goal.returns-then-is_some
returns-then-is_some c = rw c.new.ensures (search astray_names)

pub returns : goal.returns
returns c = rw c.new-2.ensures (search astray_six)
