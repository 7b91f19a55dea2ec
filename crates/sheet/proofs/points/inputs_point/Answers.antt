-- The scan leaves at the first input that points nowhere; what is left of it says the same as the whole.
use native.Mathlib.Omega.{arith}
use Rattle.sheet.proofs.Starts.{row_inside}
use Rattle.sheet.proofs.Scanning.{scan_none, scan_row_lem, scan_input, scan_astray, scan_next, scan_done}
use Rattle.sheet.proofs.points.inputs_point.Goals as goal

pub loop-i-init : goal.loop-i-init
loop-i-init c = search scan_none

pub overflow_add-at : goal.overflow_add-at
overflow_add-at c = omega (arith, row_inside _ _ _ _ c.loop-i.invariant.here c.loop-i-test.true)

pub byte-count-requires : goal.byte-count-requires
byte-count-requires c = omega (arith, row_inside _ _ _ _ c.loop-i.invariant.here c.loop-i-test.true)

pub overflow_add-at-in-loop-i : goal.overflow_add-at-in-loop-i
overflow_add-at-in-loop-i c = omega (arith, row_inside _ _ _ _ c.loop-i.invariant.here c.loop-i-test.true)

pub loop-j-init : goal.loop-j-init
loop-j-init c = search scan_row_lem

pub loop-j-preserved : goal.loop-j-preserved
loop-j-preserved c = search scan_input

pub loop-i-preserved : goal.loop-i-preserved
loop-i-preserved c = search scan_next

pub returns : goal.returns
returns c = search scan_done

pub returns-then-not-points_to : goal.returns-then-not-points_to
returns-then-not-points_to c = search scan_astray
