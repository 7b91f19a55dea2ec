-- Widening has one outcome, and its number is the first of its list.
use Prim.Native.Nat.{ℕ, ◌<◌}
use native.Mathlib.Omega.{arith}
use mathlib.Core.Path.{◌≡◌, refl}
use mathlib.Core.List.{List}
use mathlib.Core.Logic.{inl, inr}
use lib.ListN.{length}
use Rattle.rules.specs.Refusals.{First}
use Rattle.rules.proofs.Refusals.{first_here, first_later, first_none, first_unique}
use Rattle.store.specs.Sound.{Sound}
use Rattle.widens.specs.Widened.{SmallTarget, widen_refusals, widened, WidenDone, WidenSays, widen_refused, widen_done}

-- ---- how each number is shown

module _ (from to : ℕ) (old target : List ℕ) where
  pub widen_one : length old ≡ 0 → First (widen_refusals from to old target) 1
  widen_one e = first_here e

  module _ (h : 0 < length old) where
    pub widen_two : (Sound from old → ⊥) → First (widen_refusals from to old target) 2
    widen_two n = first_later (λ z. omega arith) (first_here n)

    pub widen_small : Sound from old → SmallTarget to old target → First (widen_refusals from to old target) 21
    widen_small s t = first_later (λ z. omega arith) (first_later (λ n. n s) (first_here t))

module _ {from to : ℕ} {old target : List ℕ} where
  not_small : WidenDone from to old target → SmallTarget to old target → ⊥
  not_small d (inl e) = let h = d.target_words in omega arith
  not_small d (inr l) = let r = d.room in omega arith

  pub done_first : WidenDone from to old target → First (widen_refusals from to old target) 0
  done_first d = let h = d.words in first_later (λ z. omega arith) (first_later (λ n. n d.sound) (first_later (not_small d) first_none))

  -- ---- what an outcome tells

  pub widen_first : {r : ℕ} {after : List ℕ} → WidenSays from to old target r after → First (widen_refusals from to old target) r
  widen_first (widen_refused f z) = f
  widen_first (widen_done d) = done_first d

  pub widen_told : {r : ℕ} {after : List ℕ} → WidenSays from to old target r after → r ≡ 0 → WidenDone from to old target × (after ≡ widened from to old target)
  widen_told (widen_refused f z) e = absurd (z e)
  widen_told (widen_done d) e = (d, refl)

  pub widen_kept : {r : ℕ} {after : List ℕ} → WidenSays from to old target r after → (r ≡ 0 → ⊥) → after ≡ target
  widen_kept (widen_refused f z) n = refl
  widen_kept (widen_done d) n = absurd (n refl)

  -- ---- two outcomes are equal

  pub widen_unique : {a b : ℕ} {v x : List ℕ} → WidenSays from to old target a v → WidenSays from to old target b x → (a ≡ b) × (v ≡ x)
  widen_unique (widen_refused f z) (widen_refused g y) = (first_unique f g, refl)
  widen_unique (widen_refused f z) (widen_done d) = absurd (z (first_unique f (done_first d)))
  widen_unique (widen_done d) (widen_refused g y) = absurd (y (first_unique g (done_first d)))
  widen_unique (widen_done d) (widen_done e) = (refl, refl)
