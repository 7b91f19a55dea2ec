-- Laws of refusals in order: how the number is shown, that it is the only one, and what it tells.
use Prim.Native.Nat.{ℕ}
use mathlib.Core.Path.{◌≡◌, refl, sym, ◌∙◌}
use mathlib.Core.List.{List, [], ◌∷◌, ◌++◌}
use mathlib.Core.Logic.{inl, inr}
use Rattle.rules.specs.Refusals.{Refusal, ◌when◌, FirstIn, First, NoneOf, Numbered}

-- ---- how it is shown

pub first_none : First [] 0
first_none = record { first = refl }

pub first_here : {n : ℕ} {p : Type 0} {l : List Refusal} → p → First ((n when p) ∷ l) n
first_here h = record { first = inl (h, refl) }

pub first_later : {n : ℕ} {p : Type 0} {l : List Refusal} {r : ℕ} → (p → ⊥) → First l r → First ((n when p) ∷ l) r
first_later not-p f = record { first = inr (not-p, f.first) }

-- ---- the number is the only one

only : (l : List Refusal) {a b : ℕ} → FirstIn l a → FirstIn l b → a ≡ b
only [] p q = p ∙ sym q
only (x ∷ l) (inl p) (inl q) = p.1 ∙ sym q.1
only (x ∷ l) (inl p) (inr q) = absurd (q.0 p.0)
only (x ∷ l) (inr p) (inl q) = absurd (p.0 q.0)
only (x ∷ l) (inr p) (inr q) = only l p.1 q.1

pub first_unique : {l : List Refusal} {a b : ℕ} → First l a → First l b → a ≡ b
first_unique {l} f g = only l f.first g.first

-- ---- what it tells: done exactly when nothing of the list applies

left : (l : List Refusal) → Numbered l → FirstIn l 0 → NoneOf l
left [] n f = tt
left (x ∷ l) n (inl p) = absurd (n.0 (sym p.1))
left (x ∷ l) n (inr p) = (p.0, left l n.1 p.1)

pub done_none : {l : List Refusal} → Numbered l → First l 0 → NoneOf l
done_none {l} n f = left l n f.first

passed : (l : List Refusal) → NoneOf l → FirstIn l 0
passed [] n = refl
passed (x ∷ l) n = inr (n.0, passed l n.1)

pub none_done : (l : List Refusal) → NoneOf l → First l 0
none_done l n = record { first = passed l n }

-- ---- one list before another

fronted : (l m : List Refusal) {r : ℕ} → FirstIn l r → (r ≡ 0 → ⊥) → FirstIn (l ++ m) r
fronted [] m f z = absurd (z f)
fronted (x ∷ l) m (inl p) z = inl p
fronted (x ∷ l) m (inr p) z = inr (p.0, fronted l m p.1 z)

pub first_front : {l : List Refusal} (m : List Refusal) {r : ℕ} → First l r → (r ≡ 0 → ⊥) → First (l ++ m) r
first_front {l} m f z = record { first = fronted l m f.first z }

after : (l m : List Refusal) (r : ℕ) → NoneOf l → FirstIn m r → FirstIn (l ++ m) r
after [] m r n f = f
after (x ∷ l) m r n f = inr (n.0, after l m r n.1 f)

pub first_past : (l : List Refusal) {m : List Refusal} {r : ℕ} → NoneOf l → First m r → First (l ++ m) r
first_past l {m} {r} n f = record { first = after l m r n f.first }

beyond : (l m : List Refusal) (r : ℕ) → NoneOf l → FirstIn (l ++ m) r → FirstIn m r
beyond [] m r n f = f
beyond (x ∷ l) m r n (inl p) = absurd (n.0 p.0)
beyond (x ∷ l) m r n (inr p) = beyond l m r n.1 p.1

pub past_first : (l : List Refusal) {m : List Refusal} {r : ℕ} → NoneOf l → First (l ++ m) r → First m r
past_first l {m} {r} n f = record { first = beyond l m r n f.first }
