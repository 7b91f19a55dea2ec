-- The order of paths is a total order, a shorter path comes first, and a step put before or after two paths keeps it.
use Prim.Native.Nat.{ℕ, suc, ◌<◌}
use native.Mathlib.Omega.{arith}
use native.Mathlib.Decide.{dec_lt}
use mathlib.Core.Path.{◌≡◌, refl, ap, ap₂, ◌∙◌}
use mathlib.Core.List.{List, [], ◌∷◌, ◌++◌}
use mathlib.Core.Logic.{◌⊎◌, inl, inr}
use lib.ListN.{length, length-append}
use Rattle.trees.specs.PathOrder.{◌≤lex◌, ◌≤path◌}

-- ---- both orders compare two numbers first, and only where these are equal what is left

abbrev NumberFirst : ℕ → ℕ → Type 0 → Type 0
NumberFirst a b P = (a < b) ⊎ ((a ≡ b) × P)

number_total : (a b : ℕ) {P Q : Type 0} → P ⊎ Q → NumberFirst a b P ⊎ NumberFirst b a Q
number_total a b {P} {Q} r = go (dec_lt a b) (dec_lt b a) r
  where
    go : Dec (a < b) → Dec (b < a) → P ⊎ Q → NumberFirst a b P ⊎ NumberFirst b a Q
    go (yes l) d r = inl (inl l)
    go (no l) (yes k) r = inr (inl k)
    go (no l) (no k) (inl p) = inl (inr (omega arith, p))
    go (no l) (no k) (inr q) = inr (inr (omega arith, q))

number_antisym : {a b : ℕ} {P Q : Type 0} → NumberFirst a b P → NumberFirst b a Q → (a ≡ b) × P × Q
number_antisym (inl l) (inl k) = absurd (omega arith)
number_antisym (inl l) (inr k) = absurd (omega arith)
number_antisym (inr l) (inl k) = absurd (omega arith)
number_antisym (inr l) (inr k) = (l.0, l.1, k.1)

number_trans : {a b c : ℕ} {P Q R : Type 0} → (P → Q → R) → NumberFirst a b P → NumberFirst b c Q → NumberFirst a c R
number_trans f (inl l) (inl k) = inl (omega arith)
number_trans f (inl l) (inr k) = inl (omega arith)
number_trans f (inr l) (inl k) = inl (omega arith)
number_trans f (inr l) (inr k) = inr (l.0 ∙ k.0, f l.1 k.1)

-- ---- by the first step that differs

lex_refl : (p : List ℕ) → p ≤lex p
unfolding ◌≤lex◌
lex_refl [] = tt
lex_refl (n ∷ p) = inr (refl, lex_refl p)

lex_total : (p q : List ℕ) → (p ≤lex q) ⊎ (q ≤lex p)
unfolding ◌≤lex◌
lex_total [] q = inl tt
lex_total (n ∷ p) [] = inr tt
lex_total (n ∷ p) (m ∷ q) = number_total n m (lex_total p q)

lex_antisym : (p q : List ℕ) → p ≤lex q → q ≤lex p → p ≡ q
unfolding ◌≤lex◌
lex_antisym [] [] a b = refl
lex_antisym [] (m ∷ q) a b = absurd b
lex_antisym (n ∷ p) [] a b = absurd a
lex_antisym (n ∷ p) (m ∷ q) a b =
    let e = number_antisym a b in
    ap₂ ◌∷◌ e.0 (lex_antisym p q e.1 e.2)

lex_trans : (p q r : List ℕ) → p ≤lex q → q ≤lex r → p ≤lex r
unfolding ◌≤lex◌
lex_trans [] q r a b = tt
lex_trans (n ∷ p) [] r a b = absurd a
lex_trans (n ∷ p) (m ∷ q) [] a b = absurd b
lex_trans (n ∷ p) (m ∷ q) (k ∷ r) a b = number_trans (lex_trans p q r) a b

-- what stands after both paths does not matter where they are of one length
lex_extend : (p q r : List ℕ) → length p ≡ length q → p ≤lex q → (p ++ r) ≤lex (q ++ r)
unfolding ◌≤lex◌
lex_extend [] [] r e a = lex_refl r
lex_extend [] (m ∷ q) r e a = absurd (omega arith)
lex_extend (n ∷ p) [] r e a = absurd a
lex_extend (n ∷ p) (m ∷ q) r e (inl l) = inl l
lex_extend (n ∷ p) (m ∷ q) r e (inr l) = inr (l.0, lex_extend p q r (omega arith) l.1)

-- ---- shorter first, then so

pub path_refl : (p : List ℕ) → p ≤path p
unfolding ◌≤path◌
path_refl p = inr (refl, lex_refl p)

module _ (p q : List ℕ) where
  pub path_total : (p ≤path q) ⊎ (q ≤path p)
  unfolding ◌≤path◌
  path_total = number_total (length p) (length q) (lex_total p q)

  pub path_antisym : p ≤path q → q ≤path p → p ≡ q
  unfolding ◌≤path◌
  path_antisym a b =
      let e = number_antisym a b in
      lex_antisym p q e.1 e.2

  pub path_trans : (r : List ℕ) → p ≤path q → q ≤path r → p ≤path r
  unfolding ◌≤path◌
  path_trans r = number_trans (lex_trans p q r)

  pub shorter_first : length p < length q → p ≤path q
  unfolding ◌≤path◌
  shorter_first l = inl l

  pub shorter_never_later : length p < length q → q ≤path p → ⊥
  unfolding ◌≤path◌
  shorter_never_later l (inl k) = omega arith
  shorter_never_later l (inr k) = omega arith

  pub step_first : (m : ℕ) → p ≤path q → (m ∷ p) ≤path (m ∷ q)
  unfolding ◌≤path◌ ◌≤lex◌
  step_first m (inl l) = inl (omega arith)
  step_first m (inr l) = inr (ap suc l.0, inr (refl, l.1))

  pub path_extend : (r : List ℕ) → p ≤path q → (p ++ r) ≤path (q ++ r)
  unfolding ◌≤path◌
  path_extend r (inl l) = inl (simp length-append (omega arith))
  path_extend r (inr l) = inr (simp length-append (omega arith), lex_extend p q r l.0 l.1)
