-- The cleaned store alone, sorted, and its rows numbered by their classes.
use Prim.Native.Nat.{ℕ, ◌≤◌, ◌<◌}
use native.Mathlib.Omega.{arith}
use mathlib.Core.Path.{◌≡◌, refl}
use mathlib.Core.List.{List, [], ◌∷◌}
use lib.ListN.{length}
use Rattle.trees.specs.Agreement.{SameTree}
use Rattle.trees.specs.Sorting.{Sorted}
use Rattle.trees.proofs.Agreement.{same_refl, same_sym, same_trans}
use Rattle.store.specs.Layout.{store_graph}
use Rattle.rows.specs.Joined.{source, joined}
use Rattle.rows.specs.View.{Viewed, view_rows}
use Rattle.rows.proofs.View.{store_same, viewed_stored}
use Rattle.rows.proofs.Views.{view_store}
use Rattle.rounds.specs.Classes.{class_of}
use Rattle.classes.specs.Settled.{SortedOver}
use Rattle.renumbering.specs.Numbered.{NumberAsks, NumbersGiven}
use Rattle.mender.specs.Steps.{FillAsks, ListFilled}

module _ (most n : ℕ) (w b list cls numbers : List ℕ) (a : FillAsks most n w list cls numbers) where
  pub fill_viewed : Viewed (source most w n b) []
  fill_viewed = rw a.counted (view_store a.limit a.shaped)

  few : n ≤ 1024
  few = viewed_stored fill_viewed

  pub fill_fits : view_rows (source most w n b) [] ≤ length cls
  fill_fits = omega (arith, few, a.classes)

  module _ (new : List ℕ) (o : SortedOver (source most w n b) [] cls new) where
    seen : (u : ℕ) → u < n → u < view_rows (source most w n b) []
    seen u h = omega arith

    same : (u : ℕ) → u < n → SameTree (joined (source most w n b)) u (store_graph most w) u
    same = store_same fill_viewed

    low : (u : ℕ) → u < n → class_of new u ≤ u
    low u h = o.sorted.lowest u u (seen u h) (seen u h) (same_refl (joined (source most w n b)) u)

    sorted : Sorted (store_graph most w) n (class_of new)
    sorted =
        record {
          exact =
              record {
                tree = λ u v h k e. same_trans (same_sym (same u h)) (same_trans (o.sorted.exact.tree u v (seen u h) (seen v k) e) (same v k));
                class = λ u v h k t. o.sorted.exact.class u v (seen u h) (seen v k) (same_trans (same u h) (same_trans t (same_sym (same v k))));
              };
          has = λ u h.
              let l = low u h in
              let k : class_of new u < n = omega arith in
              same_trans (same_sym (same (class_of new u) k)) (same_trans (o.sorted.has u (seen u h)) (same u h));
          lowest = λ u v h k t. o.sorted.lowest u v (seen u h) (seen v k) (same_trans (same u h) (same_trans t (same_sym (same v k))));
        }

    pub fill_numbers : NumberAsks n list new numbers
    fill_numbers =
        record {
          few = few;
          entries = a.entries;
          classes = omega (arith, few, a.classes, o.stands.same);
          within = λ u h. omega (arith, low u h, few, a.zeros.all);
          zero = a.zeros.zero;
        }

    pub fill_all : (list' : List ℕ) (kept : ℕ) → NumbersGiven n new list list' kept → ListFilled most n w list list' kept
    fill_all list' kept g = record { classes = new; sorted = sorted; given = g }
