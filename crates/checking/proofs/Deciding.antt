-- Statements decided by computing: both of two, all below a number, the lowest number that passes, and two equal lists.
use Prim.Native.Nat.{ℕ, zero, suc, ◌≤◌, ◌<◌}
use native.Mathlib.Omega.{arith}
use native.Mathlib.Decide.{dec_lt}
use mathlib.Core.Path.{◌≡◌, refl, ap₂}
use mathlib.Core.Bool.{Bool, true, false, ◌&&◌}
use mathlib.Core.List.{List, [], ◌∷◌}
use lib.Dec.{eqb, leb}
use borrow.Author.Tests.{leb-true, leb-false}
use Rattle.rules.specs.Pick.{pick}
use Rattle.rules.specs.Answers.{Says, says_yes, says_no}
use Rattle.rules.proofs.Answers.{says_same}
use Rattle.rules.proofs.Tested.{says_equal}

-- ---- both: the second is asked only where the first holds

pub says_both : {P Q : Type 0} {a b : Bool} → Says P a → (P → Says Q b) → Says (P × Q) (a && b)
says_both {P} {Q} {a} {b} (says_yes p) f = go (f p)
  where
    go : {t : Bool} → Says Q t → Says (P × Q) t
    go (says_yes q) = says_yes (p, q)
    go (says_no n) = says_no (λ x. n x.1)
says_both (says_no n) f = says_no (λ x. n x.0)

pub says_most : (a b : ℕ) → Says (a ≤ b) (leb a b)
says_most a b = go (leb a b) refl
  where
    go : (t : Bool) → leb a b ≡ t → Says (a ≤ b) t
    go true p = says_yes (leb-true a b p)
    go false p = says_no (λ h. let l = leb-false a b p in omega arith)

-- ---- all below a number

unfoldable pub all_below : (ℕ → Bool) → ℕ → Bool
all_below t zero = true
all_below t (suc n) = all_below t n && t n

pub says_all : {P : ℕ → Type 0} {t : ℕ → Bool} (n : ℕ) → ((j : ℕ) → j < n → Says (P j) (t j)) → Says ((j : ℕ) → j < n → P j) (all_below t n)
unfolding all_below
says_all zero each = says_yes (λ j h. absurd (omega arith))
says_all {P} {t} (suc n) each =
    says_same (more, λ f. ((λ j h. f j (omega arith)), f n (omega arith)))
    (says_both (says_all n (λ j h. each j (omega arith))) (λ f. each n (omega arith)))
  where
    more : ((j : ℕ) → j < n → P j) × P n → (j : ℕ) → j < suc n → P j
    more f j h = go (dec_lt j n)
      where
        go : Dec (j < n) → P j
        go (yes l) = f.0 j l
        go (no l) = let e : j ≡ n = omega arith in rw e f.1

-- ---- the lowest number that passes, up to one that does

unfoldable pub lowest : (ℕ → Bool) → ℕ → ℕ
lowest t zero = zero
lowest t (suc n) = pick (t zero) zero (suc (lowest (λ w. t (suc w)) n))

pub record PassesFirst (t : ℕ → Bool) (k : ℕ) : Type 0 where
  pub passes : t k ≡ true
  pub before : (w : ℕ) → w < k → t w ≡ false

pub lowest_passes : (t : ℕ → Bool) (n : ℕ) → t n ≡ true → PassesFirst t (lowest t n)
unfolding lowest
lowest_passes t zero e = record { passes = e; before = λ w h. absurd (omega arith) }
lowest_passes t (suc n) e = go (t zero) refl (lowest_passes (λ w. t (suc w)) n e)
  where
    go : (b : Bool) → t zero ≡ b → PassesFirst (λ w. t (suc w)) (lowest (λ w. t (suc w)) n) → PassesFirst t (pick (t zero) zero (suc (lowest (λ w. t (suc w)) n)))
    go true z ih = rw z (record { passes = z; before = λ w h. absurd (omega arith) })
    go false z ih = rw z (record { passes = ih.passes; before = early })
      where
        early : (w : ℕ) → w < suc (lowest (λ w. t (suc w)) n) → t w ≡ false
        early zero h = z
        early (suc w) h = ih.before w (omega arith)

-- ---- two lists are equal

unfoldable pub same_list : List ℕ → List ℕ → Bool
same_list [] [] = true
same_list [] (y ∷ b) = false
same_list (x ∷ a) [] = false
same_list (x ∷ a) (y ∷ b) = eqb x y && same_list a b

pub says_list : (a b : List ℕ) → Says (a ≡ b) (same_list a b)
unfolding same_list
says_list [] [] = says_yes refl
says_list [] (y ∷ b) = says_no (λ e. let z : ◌≡◌ {A = ℕ} 0 1 = cc in omega arith)
says_list (x ∷ a) [] = says_no (λ e. let z : ◌≡◌ {A = ℕ} 0 1 = cc in omega arith)
says_list (x ∷ a) (y ∷ b) =
    says_same ((λ p. ap₂ ◌∷◌ p.0 p.1), (λ e. (cc, cc))) (says_both (says_equal x y) (λ e. says_list a b))
