-- All that is written goes by the classes of the rows of the view only: classes that are the same there write the same.
use Prim.Native.Nat.{ℕ, zero, suc, ◌+◌, ◌≤◌, ◌<◌}
use native.Mathlib.Omega.{arith}
use mathlib.Core.Path.{◌≡◌, refl}
use mathlib.Core.List.{List}
use Rattle.rules.specs.Lists.{firsts}
use Rattle.rules.proofs.Lists.{firsts_same}
use Rattle.trees.specs.Graph.{Graph, Closed}
use Rattle.trees.specs.Sorting.{Sorted}
use Rattle.rounds.proofs.Settling.{sorted_class}
use Rattle.numbering.specs.Numbers.{trees_below, row_number}
use Rattle.numbering.proofs.Quotient.{class_low}
use Rattle.writing.specs.After.{is_new, new_row, rows_put, store_written, answer_of}
use Rattle.writing.proofs.Inputs.{new_row_same}

-- the first n rows have the same classes, among them
pub record SameClasses (n : ℕ) (c d : ℕ → ℕ) : Type 0 where
  pub each : (u : ℕ) → u < n → c u ≡ d u
  pub within : (u : ℕ) → u < n → c u ≤ n

-- two sortings of the same rows
pub sorted_same : {g : Graph} {n : ℕ} {c d : ℕ → ℕ} → Sorted g n c → Sorted g n d → SameClasses n c d
sorted_same s t = record { each = sorted_class s t; within = λ u h. omega (arith, class_low s u h) }

module _ {n : ℕ} {c d : ℕ → ℕ} (e : SameClasses n c d) where
  pub below_same : (u : ℕ) → u ≤ n → trees_below c u ≡ trees_below d u
  unfolding trees_below
  below_same zero h = refl
  below_same (suc u) h = rw (below_same u (omega arith), e.each u h)

  pub number_classes : (u : ℕ) → u < n → row_number c u ≡ row_number d u
  unfolding row_number
  number_classes u h = rw (← e.each u h) (below_same (c u) (e.within u h))

  pub answers_same : (stored rows : ℕ) → stored + rows ≤ n → firsts (answer_of c stored) rows ≡ firsts (answer_of d stored) rows
  unfolding answer_of
  answers_same stored rows h =
      firsts_same (answer_of c stored) (answer_of d stored) rows (λ i l. number_classes (stored + i) (omega arith))

  module _ {g : Graph} (closed : Closed g n) (most stored : ℕ) (w : List ℕ) where
    row_same : (u : ℕ) → u < n → new_row g c u ≡ new_row g d u
    row_same u h = new_row_same g g c d u refl refl (λ j l. number_classes (g.input u j) (closed.within u j h l))

    pub rows_put_same : (u : ℕ) → u ≤ n → rows_put most g c stored w u ≡ rows_put most g d stored w u
    unfolding rows_put is_new
    rows_put_same zero h = refl
    rows_put_same (suc u) h =
        rw (rows_put_same u (omega arith), below_same u (omega arith), row_same u h, e.each u h)

    pub after_same : store_written most g c stored n w ≡ store_written most g d stored n w
    unfolding store_written
    after_same = rw (rows_put_same n (omega arith), below_same n (omega arith))
