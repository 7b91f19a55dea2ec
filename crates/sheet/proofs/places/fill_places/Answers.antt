-- Each row starts where the row before it ends.
use native.Mathlib.Omega.{arith}
use Rattle.sheet.proofs.Starts.{row_inside}
use Rattle.sheet.proofs.Filling.{places_none, places_more, places_done}
use Rattle.sheet.proofs.places.fill_places.Goals as goal

pub loop-i-init : goal.loop-i-init
loop-i-init c = search places_none

pub overflow_cast-table : goal.overflow_cast-table
overflow_cast-table c = omega (arith, row_inside _ _ _ _ c.loop-i.invariant.here c.loop-i-test.true)

pub overflow_add-at : goal.overflow_add-at
overflow_add-at c = omega (arith, row_inside _ _ _ _ c.loop-i.invariant.here c.loop-i-test.true)

pub overflow_add-at-in-loop-i : goal.overflow_add-at-in-loop-i
overflow_add-at-in-loop-i c = omega (arith, row_inside _ _ _ _ c.loop-i.invariant.here c.loop-i-test.true)

pub byte-requires : goal.byte-requires
byte-requires c = omega (arith, row_inside _ _ _ _ c.loop-i.invariant.here c.loop-i-test.true)

pub overflow_add-at-in-loop-i-2 : goal.overflow_add-at-in-loop-i-2
overflow_add-at-in-loop-i-2 c = omega (arith, row_inside _ _ _ _ c.loop-i.invariant.here c.loop-i-test.true)

pub loop-i-preserved : goal.loop-i-preserved
loop-i-preserved c = search places_more

pub returns : goal.returns
returns c = search places_done
