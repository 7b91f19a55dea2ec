-- The answers on a store's capacity and shape: the shape's is the only one, their numbers are those of the table, and what each answer tells.
use Prim.Native.Nat.{ℕ, ◌<◌}
use native.Mathlib.Omega.{arith}
use native.Mathlib.Decide.{ℕ_discrete}
use mathlib.Core.Path.{◌≡◌, refl, sym, ap, ◌∙◌}
use mathlib.Core.List.{List, [], ◌∷◌}
use lib.ListN.{length}
use borrow.Author.Tests.{eq-eqb, ne_eqb}
use Rattle.std.specs.Prelude.{Result, Ok, Err}
use Rattle.rules.specs.Refusals.{First, ◌when◌}
use Rattle.rules.proofs.Refusals.{first_none, first_here, first_later}
use Rattle.store.specs.Layout.{in_use, capacity_of, capacity_answer, capacity_number, capacity_values}
use Rattle.store.specs.Sound.{Shaped, ShapeSays, says_no_words, says_broken, says_rows, shape_number, shape_values}
use Rattle.store.specs.declared.shape.Flaw.{Flaw}
use Rattle.store.specs.declared.shape.Flaw.TheVariants.{NoWords, Broken}

module _ {most : ℕ} {w : List ℕ} where
  pub shape_unique : {a b : Result ℕ Flaw} → ShapeSays most w a → ShapeSays most w b → a ≡ b
  shape_unique (says_no_words p) (says_no_words q) = refl
  shape_unique (says_no_words p) (says_broken q b) = absurd (omega arith)
  shape_unique (says_no_words p) (says_rows q c s) = absurd (omega arith)
  shape_unique (says_broken p a) (says_no_words q) = absurd (omega arith)
  shape_unique (says_broken p a) (says_broken q b) = refl
  shape_unique (says_broken p a) (says_rows q c s) = absurd (a s)
  shape_unique (says_rows p c s) (says_no_words q) = absurd (omega arith)
  shape_unique (says_rows p c s) (says_broken q b) = absurd (b s)
  shape_unique (says_rows p c s) (says_rows q d t) = ap Ok (c ∙ sym d)

  pub shape_first : {r : Result ℕ Flaw} → ShapeSays most w r → First ((1 when (length w ≡ 0)) ∷ (2 when (Shaped most w → ⊥)) ∷ []) (shape_number r)
  shape_first (says_no_words p) = first_here p
  shape_first (says_broken p a) = first_later (λ z. omega arith) (first_here a)
  shape_first (says_rows p c s) = first_later (λ z. omega arith) (first_later (λ n. n s) first_none)

  pub shape_values_lem : {r : Result ℕ Flaw} → ShapeSays most w r → shape_number r ≡ 0 → shape_values r ≡ in_use w ∷ []
  shape_values_lem (says_no_words p) e = absurd (omega arith)
  shape_values_lem (says_broken p a) e = absurd (omega arith)
  shape_values_lem (says_rows p c s) e = rw c

-- ---- the capacity's

module _ (most words : ℕ) where
  pub capacity_first : First ((1 when (words ≡ 0)) ∷ []) (capacity_number (capacity_answer most words))
  unfolding capacity_answer
  capacity_first = go (ℕ_discrete words 0)
    where
      go : Dec (words ≡ 0) → First ((1 when (words ≡ 0)) ∷ []) (capacity_number (capacity_answer most words))
      go (yes q) = rw (eq-eqb words 0 q) (first_here q)
      go (no q) = rw (ne_eqb words 0 q) (first_later q first_none)

  pub capacity_values_lem : (words ≡ 0 → ⊥) → capacity_values (capacity_answer most words) ≡ capacity_of most words ∷ []
  unfolding capacity_answer
  capacity_values_lem q = rw (ne_eqb words 0 q) refl

-- ---- what the answer tells a caller, who knows which it is by an equation

pub record ShapeTold (most : ℕ) (w : List ℕ) (rows : ℕ) : Type 0 where
  pub words_there : 0 < length w
  pub counted : rows ≡ in_use w
  pub shaped : Shaped most w

module _ (most : ℕ) (w : List ℕ) where
  pub told_none : (a : Result ℕ Flaw) → ShapeSays most w a → a ≡ Err NoWords → length w ≡ 0
  told_none a (says_no_words p) e = p
  told_none a (says_broken p b) e = cc
  told_none a (says_rows p c s) e = cc

  pub told_broken : (a : Result ℕ Flaw) → ShapeSays most w a → a ≡ Err Broken → Shaped most w → ⊥
  told_broken a (says_broken p b) e = b
  told_broken a (says_no_words p) e = let z : ◌≡◌ {A = ℕ} 0 1 = cc in absurd (omega arith)
  told_broken a (says_rows p c s) e = let z : ◌≡◌ {A = ℕ} 0 1 = cc in absurd (omega arith)

  pub told_rows : (a : Result ℕ Flaw) (rows : ℕ) → ShapeSays most w a → a ≡ Ok rows → ShapeTold most w rows
  told_rows a rows (says_rows p c s) e = record { words_there = p; counted = cc; shaped = s }
  told_rows a rows (says_no_words p) e = let z : ◌≡◌ {A = ℕ} 0 1 = cc in absurd (omega arith)
  told_rows a rows (says_broken p b) e = let z : ◌≡◌ {A = ℕ} 0 1 = cc in absurd (omega arith)
