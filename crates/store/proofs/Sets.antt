-- A list written from a place: what stands before it, in it and past it, and one entry more.
use Prim.Native.Nat.{ℕ, zero, suc, ◌+◌, ◌≤◌, ◌<◌}
use native.Mathlib.Omega.{arith}
use native.Mathlib.Nat.{add-zero}
use mathlib.Core.Path.{◌≡◌, refl, ◌∙◌}
use mathlib.Core.List.{List, [], ◌∷◌, ◌++◌}
use lib.ListN.{length, get_or, set, length-set}
use lib.Seq.{sets, get_or-set_same, get_or-set_other}

module _ {A : Type 0} (d : A) where
  pub sets_before : (l : List A) (i : ℕ) (vs : List A) (k : ℕ) → k < i → get_or (sets l i vs) k d ≡ get_or l k d
  sets_before l i [] k h = refl
  sets_before l i (a ∷ vs) k h =
      sets_before (set l i a) (suc i) vs k (omega arith) ∙ get_or-set_other l i k a d (λ e. omega arith)

  pub sets_past : (l : List A) (i : ℕ) (vs : List A) (k : ℕ) → i + length vs ≤ k → get_or (sets l i vs) k d ≡ get_or l k d
  sets_past l i [] k h = refl
  sets_past l i (a ∷ vs) k h =
      sets_past (set l i a) (suc i) vs k (omega arith) ∙ get_or-set_other l i k a d (λ e. omega arith)

  pub sets_within : (l : List A) (i : ℕ) (vs : List A) (k : ℕ) → k < length vs → i + length vs ≤ length l → get_or (sets l i vs) (i + k) d ≡ get_or vs k d
  sets_within l i [] k h f = absurd (omega arith)
  sets_within l i (a ∷ vs) zero h f =
      rw add-zero (sets_before (set l i a) (suc i) vs i (omega arith) ∙ get_or-set_same l i a d (omega arith))
  sets_within l i (a ∷ vs) (suc k) h f =
      let e : i + suc k ≡ suc i + k = omega arith in
      rw e (sets_within (set l i a) (suc i) vs k (omega arith) (omega (arith, length-set l i a)))

module _ {A : Type 0} where
  pub sets_more : (l : List A) (i : ℕ) (vs : List A) (a : A) → sets l i (vs ++ (a ∷ [])) ≡ set (sets l i vs) (i + length vs) a
  sets_more l i [] a = rw add-zero
  sets_more l i (b ∷ vs) a =
      let e : i + suc (length vs) ≡ suc i + length vs = omega arith in
      rw e (sets_more (set l i b) (suc i) vs a)
