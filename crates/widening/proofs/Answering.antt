-- The operation's outcomes, from what looking at the old store and the target's capacity tell.
use Prim.Native.Nat.{ℕ, ◌+◌, ◌-◌, ◌*◌, ◌/◌, ◌≤◌, ◌<◌}
use native.Mathlib.Omega.{arith}
use native.Mathlib.Nat.{mul-le-mul, div-mul-le_self, le-div_iff_mul-le, min-le_left, min-le_right, le-min}
use mathlib.Core.Path.{◌≡◌}
use mathlib.Core.List.{List, [], ◌∷◌}
use mathlib.Core.Logic.{inl, inr}
use lib.ListN.{length}
use Rattle.std.specs.Prelude.{Option, Some, None, Result, Ok, Err}
use Rattle.rules.specs.Lists.{widest}
use Rattle.rules.specs.Refusals.{◌when◌}
use Rattle.rules.proofs.Refusals.{first_front}
use Rattle.store.specs.Layout.{capacity_of, capacity_answer}
use Rattle.store.specs.Sound.{flaw_number}
use Rattle.store.specs.declared.shape.Flaw.{Flaw}
use Rattle.store.proofs.Room.{none_words, some_words, rows_words}
use Rattle.widens.specs.Widened.{SmallTarget, WidenSays, widen_refused, widen_done, widened}
use Rattle.widens.proofs.Outcomes.{widen_small}
use Rattle.widening.specs.Steps.{OldSound, old_refusals, LookedSays, looked_refused, looked_rows, Fitting}

-- ---- what looking told

module _ (from : ℕ) (old : List ℕ) (a : Result ℕ Flaw) (s : LookedSays from old a) where
  pub told_number : (to : ℕ) (target : List ℕ) (flaw : Flaw) (number : ℕ) → a ≡ Err flaw → number ≡ flaw_number flaw → WidenSays from to old target number target
  told_number to target flaw number e q = rw q (go (rw e at s))
    where
      go : LookedSays from old (Err flaw) → WidenSays from to old target (flaw_number flaw) target
      go (looked_refused f z) = widen_refused (first_front {l = old_refusals from old} ((21 when (SmallTarget to old target)) ∷ []) f z) z

  pub told_sound : (rows : ℕ) → a ≡ Ok rows → OldSound from old rows
  told_sound rows e = go (rw e at s)
    where
      go : LookedSays from old (Ok rows) → OldSound from old rows
      go (looked_rows x) = x

-- ---- the target's capacity

-- with room for more inputs a row there is room for fewer rows
pub capacity_falls : (less more words : ℕ) → less ≤ more → capacity_of more words ≤ capacity_of less words
unfolding capacity_of
capacity_falls less more words h =
    let rows = (words - 1) / (more + 2) in
    let whole : rows * (more + 2) ≤ words - 1 = div-mul-le_self (words - 1) (more + 2) in
    let part : rows * (less + 2) ≤ rows * (more + 2) = mul-le-mul {n₂ = rows} {m₂ = more + 2} (omega arith) (omega arith) in
    let few : rows ≤ (words - 1) / (less + 2) = (le-div_iff_mul-le {k = less + 2} {x = rows} {y = words - 1} (omega arith)).1 (omega arith) in
    le-min (min-le_left 1024 rows) (omega (arith, min-le_right 1024 rows))

module _ (from to : ℕ) (old target : List ℕ) (rows : ℕ) (o : OldSound from old rows) (a : Option ℕ) where
  -- a target without words has none in any layout, and one that is too small in a narrower layout is too small
  module _ (less : ℕ) (e : a ≡ capacity_answer less (length target)) where
    pub target_none : a ≡ None → WidenSays from to old target 21 target
    target_none n =
        widen_refused (widen_small from to old target o.words o.sound (inl (none_words less (length target) a e n))) (λ z. omega arith)

    pub target_small : (rows_there : ℕ) → a ≡ Some rows_there → rows_there < rows → less ≤ to → WidenSays from to old target 21 target
    target_small rows_there r h l =
        widen_refused
        (widen_small from to old target o.words o.sound
        (inr (omega (arith, rows_words less (length target) a e rows_there r, capacity_falls less to (length target) l, o.counted))))
        (λ z. omega arith)

  module _ (e : a ≡ capacity_answer to (length target)) (rows_there : ℕ) (r : a ≡ Some rows_there) (grows : from ≤ to) (limit : to ≤ widest) (h : rows ≤ rows_there) where
    pub target_fits : Fitting from to old target rows
    target_fits =
        record {
          grows = grows;
          limit = limit;
          sound = o;
          words = some_words to (length target) a e rows_there r;
          room = omega (arith, rows_words to (length target) a e rows_there r);
        }

    pub target_done : (v : List ℕ) → v ≡ widened from to old target → WidenSays from to old target 0 v
    target_done v q =
        rw q
        (widen_done
        (record {
          words = o.words;
          sound = o.sound;
          target_words = target_fits.words;
          room = omega (arith, target_fits.room, o.counted);
        }))
