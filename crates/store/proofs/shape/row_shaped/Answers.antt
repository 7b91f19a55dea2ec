-- The count is within the limit, and every input word is as it should be.
use native.Mathlib.Omega.{arith}
use mathlib.Core.Path.{refl}
use borrow.Author.Rules.{rules}
use Rattle.std.proofs.lemmas.Iterator.{YieldsList-from_range}
use Rattle.store.proofs.Ranges.{all_below}
use Rattle.store.proofs.Shapes.{row_wire, row_crowded, inputs_say}
use Rattle.store.proofs.shape.row_shaped.Goals as goal

pub returns-then-wire_there : goal.returns-then-wire_there
returns-then-wire_there c = search row_wire

pub returns-then-most-count_of : goal.returns-then-most-count_of
returns-then-most-count_of c = search row_crowded

pub returns : goal.returns
returns c =
    inputs_say _ _ _ _ _ c.count_of.ensures _ _ c.wire_there.ensures c.if-wire_there.false (omega arith)
    (all_below _ _ _ _ _ c.all.ensures.ran (YieldsList-from_range 0 _ _ refl (omega arith)) (λ j b q k. search rules))
