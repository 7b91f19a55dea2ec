-- Paths with a step put at the end: a path that comes before another stays before it whatever the two last steps are, and one
-- path with a lower last step comes before itself with a higher one.
use Prim.Native.Nat.{ℕ, ◌≤◌, ◌<◌}
use native.Mathlib.Omega.{arith}
use mathlib.Core.Path.{◌≡◌}
use mathlib.Core.List.{List, [], ◌∷◌, ◌++◌}
use mathlib.Core.Logic.{◌⊎◌, inl, inr}
use lib.ListN.{length, length-append}
use Rattle.trees.specs.PathOrder.{◌≤lex◌, ◌≤path◌}
use Rattle.trees.proofs.PathOrder.{path_refl, path_total, path_antisym, path_trans}

-- p comes before q
pub record Before (p q : List ℕ) : Type 0 where
  pub first : p ≤path q
  pub other : p ≡ q → ⊥

pub never_after : {p q : List ℕ} → Before p q → q ≤path p → ⊥
never_after {p} {q} b r = b.other (path_antisym p q b.first r)

pub before_of : (p q : List ℕ) → (q ≤path p → ⊥) → Before p q
before_of p q f = record { first = go (path_total p q); other = λ e. f (rw e (path_refl q)) }
  where
    go : (p ≤path q) ⊎ (q ≤path p) → p ≤path q
    go (inl a) = a
    go (inr a) = absurd (f a)

module _ {p q r : List ℕ} where
  pub before_trans : Before p q → Before q r → Before p r
  before_trans a b = before_of p r (λ s. never_after b (path_trans r p q s a.first))

  pub before_next : p ≤path q → Before q r → Before p r
  before_next a b = before_of p r (λ s. never_after b (path_trans r p q s a))

-- ---- last steps

lex_cut : (p q : List ℕ) (a b : ℕ) → length p ≡ length q → (p ++ (a ∷ [])) ≤lex (q ++ (b ∷ [])) → p ≤lex q
unfolding ◌≤lex◌
lex_cut [] q a b e r = tt
lex_cut (n ∷ p) [] a b e r = absurd (omega arith)
lex_cut (n ∷ p) (m ∷ q) a b e (inl l) = inl l
lex_cut (n ∷ p) (m ∷ q) a b e (inr l) = inr (l.0, lex_cut p q a b (omega arith) l.1)

lex_last : (p : List ℕ) (a b : ℕ) → (p ++ (a ∷ [])) ≤lex (p ++ (b ∷ [])) → a ≤ b
unfolding ◌≤lex◌
lex_last [] a b (inl l) = omega arith
lex_last [] a b (inr l) = omega arith
lex_last (n ∷ p) a b (inl l) = absurd (omega arith)
lex_last (n ∷ p) a b (inr l) = lex_last p a b l.1

path_cut : (p q : List ℕ) (a b : ℕ) → (p ++ (a ∷ [])) ≤path (q ++ (b ∷ [])) → p ≤path q
unfolding ◌≤path◌
path_cut p q a b (inl l) = inl (omega (arith, length-append p (a ∷ []), length-append q (b ∷ [])))
path_cut p q a b (inr l) =
    let e : length p ≡ length q = omega (arith, length-append p (a ∷ []), length-append q (b ∷ []), l.0) in
    inr (e, lex_cut p q a b e l.1)

pub before_last : {p q : List ℕ} → Before p q → (a b : ℕ) → Before (p ++ (a ∷ [])) (q ++ (b ∷ []))
before_last {p} {q} r a b = before_of (p ++ (a ∷ [])) (q ++ (b ∷ [])) (λ s. never_after r (path_cut q p b a s))

pub last_before : (p : List ℕ) (a b : ℕ) → a < b → Before (p ++ (a ∷ [])) (p ++ (b ∷ []))
unfolding ◌≤path◌
last_before p a b h = before_of (p ++ (a ∷ [])) (p ++ (b ∷ [])) go
  where
    go : (p ++ (b ∷ [])) ≤path (p ++ (a ∷ [])) → ⊥
    go (inl l) = omega (arith, length-append p (a ∷ []), length-append p (b ∷ []))
    go (inr l) = omega (arith, lex_last p b a l.1)
