-- The count is within the capacity, and every row is asked.
use native.Mathlib.Omega.{arith}
use mathlib.Core.Path.{refl}
use borrow.Author.Rules.{rules}
use Rattle.std.proofs.lemmas.Iterator.{YieldsList-from_range, serves_from_Range}
use Rattle.store.specs.Layout.{in_use}
use Rattle.store.specs.Rows.{RowThere}
use Rattle.store.proofs.Room.{some_words}
use Rattle.store.proofs.Ranges.{all_below}
use Rattle.store.proofs.Shapes.{shape_none, shape_over, RowsCounted, rows_counted, rows_row, rows_broken, rows_all}
use Rattle.store.proofs.shape.shape_of.Goals as goal

pub returns-in_default : goal.returns-in_default
returns-in_default c = search shape_none

pub bounds-store-0 : goal.bounds-store-0
bounds-store-0 c = search some_words

pub returns-then-capacity-rows : goal.returns-then-capacity-rows
returns-then-capacity-rows c = search shape_over

pub all-requires : goal.all-requires
all-requires c =
    let s : RowsCounted c.args.most c.args.store.now (in_use c.args.store.now) = search rows_counted in
    record {
      can = tt;
      finite = tt;
      callable = serves_from_Range (λ n q k. search rules) (λ n l h. let t : RowThere c.args.most c.args.store.now n = search rows_row in search (rules, t));
    }

pub returns-then-all : goal.returns-then-all
returns-then-all c =
    let s : RowsCounted c.args.most c.args.store.now (in_use c.args.store.now) = search rows_counted in
    rows_all _ _ _ s _
    (all_below _ _ _ _ _ c.all.ensures.ran (YieldsList-from_range 0 _ _ refl (omega arith)) (λ n b q k. search rules))
    c.if-all.true

pub returns-else-all : goal.returns-else-all
returns-else-all c =
    let s : RowsCounted c.args.most c.args.store.now (in_use c.args.store.now) = search rows_counted in
    rows_broken _ _ _ s _
    (all_below _ _ _ _ _ c.all.ensures.ran (YieldsList-from_range 0 _ _ refl (omega arith)) (λ n b q k. search rules))
    c.if-all.false
