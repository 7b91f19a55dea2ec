-- The number of each answer on a sheet is that of the table: the first of its refusals that applies, or 0.
use Prim.Native.Nat.{ℕ}
use native.Mathlib.Omega.{arith}
use native.Mathlib.Decide.{ℕ_discrete}
use mathlib.Core.Path.{◌≡◌, refl}
use mathlib.Core.List.{List, [], ◌∷◌}
use mathlib.Core.Bool.{Bool, true, false}
use borrow.Author.Tests.{eq-eqb, ne_eqb}
use Rattle.rules.specs.Refusals.{Refusal, First, ◌when◌}
use Rattle.rules.proofs.Refusals.{first_none, first_here, first_later, none_done}
use Rattle.sheet.specs.Format.{row_count_of, label_at, count_at, row_end}
use Rattle.sheet.specs.Read.{limit_of, row_fits, row_at}
use Rattle.sheet.specs.Points.{PointsNowhere, rows_point}
use Rattle.sheet.specs.Front.{FrontSays, front_refused, front_rows}
use Rattle.sheet.specs.Answers.{limit_number, row_read_number, row_read_values, pointing_number, front_number, front_values}
use Rattle.sheet.specs.declared.fault.Fault.{Fault}
use Rattle.std.specs.Prelude.{Option, Some, None, Result}
use Rattle.sheet.specs.Faults.{RowFits}
use Rattle.sheet.proofs.Rows.{fits_yes, yes_fits}
use Rattle.sheet.proofs.Pointed.{somewhere_none, nowhere_some}

-- a version that is not 1 is 4
pub limit_first : (v : ℕ) → First ((4 when (v ≡ 1 → ⊥)) ∷ []) (limit_number (limit_of v))
unfolding limit_of
limit_first v = go (ℕ_discrete v 1)
  where
    go : Dec (v ≡ 1) → First ((4 when (v ≡ 1 → ⊥)) ∷ []) (limit_number (limit_of v))
    go (yes q) = rw (eq-eqb v 1 q) (first_later (λ n. n q) first_none)
    go (no q) = rw (ne_eqb v 1 q) (first_here q)

-- a row that has too many inputs or ends past the file is 5; one that is read has its label, its input count and its end
module _ (b : List ℕ) (most at : ℕ) where
  pub row_first : First ((5 when (RowFits b most at → ⊥)) ∷ []) (row_read_number (row_at b most at))
  unfolding row_at
  row_first = go (row_fits b most at) refl
    where
      go : (t : Bool) → row_fits b most at ≡ t → First ((5 when (RowFits b most at → ⊥)) ∷ []) (row_read_number (row_at b most at))
      go true e = rw e (first_later (λ n. n (yes_fits b most at e)) first_none)
      go false e = rw e (first_here (λ f. let y = fits_yes b most at f in let z : ◌≡◌ {A = ℕ} 0 1 = cc in absurd (omega arith)))

  pub row_values : RowFits b most at → row_read_values (row_at b most at) ≡ label_at b at ∷ count_at b at ∷ row_end b at ∷ []
  unfolding row_at
  row_values f = rw (fits_yes b most at f) refl

module _ (b : List ℕ) (stored : ℕ) where
  -- an input that points nowhere is 6
  pub pointing_first : First ((6 when PointsNowhere b stored) ∷ []) (pointing_number (rows_point b (row_count_of b) stored (row_count_of b) 7))
  pointing_first = go (rows_point b (row_count_of b) stored (row_count_of b) 7) refl
    where
      go : (p : Option ℕ) → rows_point b (row_count_of b) stored (row_count_of b) 7 ≡ p → First ((6 when PointsNowhere b stored) ∷ []) (pointing_number p)
      go None e = first_later (somewhere_none b stored e) first_none
      go (Some at) e = first_here (nowhere_some b stored at e)

-- the front gives the first of its list that applies; where none does, the sheet's row count
module _ (l : List Refusal) (b : List ℕ) (stored : ℕ) where
  pub front_first : {a : Result ℕ Fault} → FrontSays l b stored a → First l (front_number a)
  front_first (front_refused f z p) = f
  front_first (front_rows e r n c) = none_done l c

  pub front_values_lem : {a : Result ℕ Fault} → FrontSays l b stored a → front_number a ≡ 0 → front_values a ≡ row_count_of b ∷ []
  front_values_lem (front_refused f z p) e = absurd (z e)
  front_values_lem (front_rows e r n c) q = rw e
