-- Two arrays of classes compared row by row.
use Rattle.std.specs.Prelude.{Option, Some, None}
use Rattle.std.proofs.Common.{◌≡◌, ℕ, ◌+◌, ◌<◌, ◌≤◌, List, sym, refl, ◌∙◌, arith}
use native.Mathlib.Decide.{dec_lt}
use Rattle.rounds.specs.Classes.{class_of}
use Rattle.rules.specs.Lists.{firsts}
use Rattle.rules.specs.Writes.{over_front}
use Rattle.refining.specs.Moved.{MovedSays, says_still, says_row, SettleSays}

-- the first u rows have the same classes in both
pub record SameSoFar (cls new : List ℕ) (u : ℕ) : Type 0 where
  pub each : (k : ℕ) → k < u → class_of new k ≡ class_of cls k

module _ (cls new : List ℕ) where
  pub same_none : SameSoFar cls new 0
  same_none = record { each = λ k h. absurd (omega arith) }

  module _ (u x y : ℕ) (p : x ≡ class_of new u) (q : y ≡ class_of cls u) where
    pub same_more : SameSoFar cls new u → x ≡ y → SameSoFar cls new (u + 1)
    same_more s e = record { each = λ k h. go k h (dec_lt k u) }
      where
        go : (k : ℕ) → k < u + 1 → Dec (k < u) → class_of new k ≡ class_of cls k
        go k h (yes l) = s.each k l
        go k h (no l) = let i : k ≡ u = omega arith in rw i (sym p ∙ e ∙ q)

    pub one_moved : (n : ℕ) → u < n → (x ≡ y → ⊥) → MovedSays n cls new (Some u)
    one_moved n h f = says_row h (λ e. f (p ∙ e ∙ sym q))

  pub none_moved : (n u : ℕ) → SameSoFar cls new u → n ≤ u → MovedSays n cls new None
  none_moved n u s h = says_still (λ k l. s.each k (omega arith))

-- ---- the new classes taken over

module _ (n : ℕ) (cls new : List ℕ) (m : Option ℕ) (t : MovedSays n cls new m) where
  pub settle_still : m ≡ None → SettleSays n cls new cls None
  settle_still e = record { moved = rw e at t; taken = refl }

  pub settle_row : (w : ℕ) (cls' : List ℕ) → m ≡ Some w → cls' ≡ over_front (firsts (class_of new) n) cls → SettleSays n cls new cls' (Some w)
  settle_row w cls' e q = record { moved = rw e at t; taken = q }
