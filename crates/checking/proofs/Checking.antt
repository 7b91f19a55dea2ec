-- The check's number, from the shape's answer and whether the trees are distinct.
use Prim.Native.Nat.{ℕ}
use native.Mathlib.Omega.{arith}
use mathlib.Core.Path.{◌≡◌}
use mathlib.Core.List.{List}
use mathlib.Core.Bool.{Bool, false}
use Rattle.std.specs.Prelude.{Result, Ok, Err}
use Rattle.rules.specs.Refusals.{First}
use Rattle.rules.specs.Answers.{Says}
use Rattle.rules.proofs.Refusals.{first_here, first_later, first_unique}
use Rattle.rules.proofs.Answers.{said_no}
use Rattle.trees.specs.Agreement.{Minimal}
use Rattle.store.specs.Layout.{in_use, store_graph, room}
use Rattle.store.specs.Sound.{Shaped, flaw_number, ShapeSays, says_no_words, says_broken, says_rows}
use Rattle.store.specs.declared.shape.Flaw.{Flaw}
use Rattle.store.specs.declared.shape.Flaw.TheVariants.{NoWords, Broken}
use Rattle.checking.specs.Check.{InShape, check_refusals}

module _ (w : List ℕ) (a : Result ℕ Flaw) (s : ShapeSays room w a) where
  pub check_flaw : (flaw : Flaw) → a ≡ Err flaw → First (check_refusals w) (flaw_number flaw)
  check_flaw flaw e = go flaw (rw e at s)
    where
      go : (f : Flaw) → ShapeSays room w (Err f) → First (check_refusals w) (flaw_number f)
      go NoWords (says_no_words z) = first_here z
      go Broken (says_broken h f) = first_later (λ z. omega arith) (first_here (λ x. f x.shaped))

  module _ (rows : ℕ) (e : a ≡ Ok rows) where
    pub shape_told : InShape w rows
    shape_told = go (rw e at s)
      where
        go : ShapeSays room w (Ok rows) → InShape w rows
        go (says_rows h c x) = record { words = h; shaped = x; counted = c }

    pub shape_shaped : Shaped room w
    shape_shaped = shape_told.shaped

    pub shape_counted : rows ≡ in_use w
    shape_counted = shape_told.counted

    module _ (t : Bool) (m : Says (Minimal (store_graph room w) (in_use w)) t) where
      pub check_twice : t ≡ false → First (check_refusals w) 2
      check_twice q = let h = shape_told.words in first_later (λ z. omega arith) (first_here (λ x. said_no (rw q at m) x.distinct))

-- two outcomes of a check are equal
pub check_unique : (w : List ℕ) {a b : ℕ} → First (check_refusals w) a → First (check_refusals w) b → a ≡ b
check_unique w p q = first_unique p q
