-- What asking all numbers below n tells, where each call says its number's statement.
use Prim.Native.Nat.{ℕ, ◌<◌}
use native.Mathlib.Omega.{arith}
use mathlib.Core.Path.{◌≡◌, sym, subst}
use mathlib.Core.Bool.{Bool, true, false}
use mathlib.Core.List.{List}
use lib.ListN.{length, get_or}
use denote.Param.Members.{Mut}
use Rattle.std.specs.Prelude.{Option, MatchBool, HoldsAt}
use Rattle.std.specs.Iterator.{ChecksAll}
use Rattle.std.specs.Fn.{Called}
use Rattle.std.specs.List.{range_with_len, AllWithin}
use Rattle.std.proofs.lemmas.Iterator.{YieldsList, cases_from_all}
use Rattle.std.proofs.lemmas.List.FromFn.{length-range_with_len, get_or-range_with_len}
use Rattle.rules.specs.Answers.{Says, says_yes, says_no}
use Rattle.rules.proofs.Answers.{said_yes, said_no}

module _ (n : ℕ) (P : ℕ → Type 0) where
  abbrev below : List ℕ
  below = range_with_len 0 n

  number_at : (k : ℕ) → k < n → get_or below k 0 ≡ k
  number_at k h = omega (arith, get_or-range_with_len 0 n k 0 h)

  says_each : (r : Bool) → MatchBool r (AllWithin P below 0 (length below)) ((k : ℕ) × (k < length below) × HoldsAt (λ j. P j → ⊥) below k) → Says ((j : ℕ) → j < n → P j) r
  says_each true h = says_yes (λ j l. subst P (number_at j l) (h j 0 (omega arith) (omega (arith, length-range_with_len 0 n))))
  says_each false h =
      let l : h.0 < n = omega (arith, h.1, length-range_with_len 0 n) in
      says_no (λ p. h.2 0 (subst P (sym (number_at h.0 l)) (p h.0 l)))

  module _ {S F : Type 0} {steps : S → Option ℕ → S → Type 0} {g : Mut F (ℕ × Unit {0}) Bool} {s : S} (u : S) (f : F) (r : Bool) where
    pub all_below : ChecksAll steps g s f r u → YieldsList steps (λ j. j) s (range_with_len 0 n) → ((j : ℕ) (b : Bool) (q : F) → Called g f (j, tt) b q → (q ≡ f) × Says (P j) b) → Says ((j : ℕ) → j < n → P j) r
    all_below ran yields told =
        says_each r
        (cases_from_all u f r P (λ j. P j → ⊥) ran yields
        (λ j q c. let t = told j true q c in (t.0, said_yes t.1))
        (λ j q c. said_no (told j false q c).1))
