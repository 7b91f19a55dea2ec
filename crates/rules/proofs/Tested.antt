-- Yes-or-no answers and the code's tests: what an answer tells in a branch on it, and comparisons as answers.
use Prim.Native.Nat.{ℕ, ◌<◌}
use native.Mathlib.Omega.{arith}
use mathlib.Core.Path.{◌≡◌, refl}
use mathlib.Core.Bool.{Bool, true, false, not}
use lib.Dec.{ltb, eqb}
use borrow.Author.Tests.{ltb-true, ltb-false, eqb-true, eqb-false, not-true, not-false}
use Rattle.rules.specs.Answers.{Says, says_yes, says_no}
use Rattle.rules.proofs.Answers.{said_yes, said_no}

pub passed_yes : {P : Type 0} {r : Bool} → Says P r → not r ≡ false → P
passed_yes {P} {r} s e = said_yes (rw (not-false r e) at s)

pub passed_no : {P : Type 0} {r : Bool} → Says P r → not r ≡ true → P → ⊥
passed_no {P} {r} s e = said_no (rw (not-true r e) at s)

pub says_below : (a b : ℕ) → Says (a < b) (ltb a b)
says_below a b = go (ltb a b) refl
  where
    go : (t : Bool) → ltb a b ≡ t → Says (a < b) t
    go true p = says_yes (ltb-true a b p)
    go false p = says_no (λ h. let l = ltb-false a b p in omega arith)

pub says_equal : (a b : ℕ) → Says (a ≡ b) (eqb a b)
says_equal a b = go (eqb a b) refl
  where
    go : (t : Bool) → eqb a b ≡ t → Says (a ≡ b) t
    go true p = says_yes (eqb-true a b p)
    go false p = says_no (eqb-false a b p)
