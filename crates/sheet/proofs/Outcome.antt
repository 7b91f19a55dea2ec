-- What each answer to reading a sheet means, with the byte at which the fault starts: the length field for 3, byte 4 for 4, and for 5
-- the row count, the first row that is bad, or the first byte left over.
use Prim.Native.Nat.{ℕ, zero, suc, ◌+◌, ◌-◌, ◌≤◌, ◌<◌}
use native.Mathlib.Omega.{arith}
use native.Mathlib.Decide.{dec_lt, dec_le, ℕ_discrete}
use mathlib.Core.Path.{◌≡◌, refl, sym, subst}
use mathlib.Core.List.{List}
use mathlib.Core.Bool.{Bool, true, false}
use lib.ListN.{length}
use Rattle.sheet.specs.Format.{length_field, version_of, row_count_of, start, most_rows}
use Rattle.sheet.specs.Read.{fault, limit_of, row_fits, rows_from, read_sheet}
use Rattle.sheet.specs.declared.fault.Fault.{Fault}
use Rattle.std.specs.Prelude.{Option, Some, None, Result, Ok, Err}
use Rattle.sheet.specs.Faults.{RowFits, RowsFit}
use Rattle.sheet.proofs.Rows.{yes_fits}
use Rattle.sheet.proofs.Reading.{from_row, from_refused, from_whole, from_left}
use Rattle.sheet.proofs.Starts.{start_first, start_next}
use Rattle.sheet.proofs.Heads.{head_short, head_miscounted, head_unknown, head_many, head_rows}

-- rows i to n - 1, read one after another
pub data RowsOutcome (b : List ℕ) (most i n : ℕ) : Result ℕ Fault → Type 0 where
  all_read : RowsFit b most i n → start b n ≡ length b → RowsOutcome b most i n (Ok (row_count_of b))
  bad_row : (k : ℕ) → i ≤ k → k < n → RowsFit b most i k → row_fits b most (start b k) ≡ false → RowsOutcome b most i n (Err (fault 5 (start b k)))
  left_over : RowsFit b most i n → (start b n ≡ length b → ⊥) → RowsOutcome b most i n (Err (fault 5 (start b n)))

module _ (b : List ℕ) (most : ℕ) where
  none_fit : (i n : ℕ) → n ≤ i → RowsFit b most i n
  none_fit i n h = record { each = λ m p q. absurd (omega arith) }

  more_fit : (i k : ℕ) → RowFits b most (start b i) → RowsFit b most (i + 1) k → RowsFit b most i k
  more_fit i k f fs = record { each = λ m p q. go m q (dec_lt i m) p }
    where
      go : (m : ℕ) → m < k → Dec (i < m) → i ≤ m → RowFits b most (start b m)
      go m q (yes l) p = fs.each m (omega arith) q
      go m q (no l) p = let e : m ≡ i = omega arith in rw e f

  end_outcome : (i : ℕ) → RowsOutcome b most i i (rows_from b most 0 (start b i))
  end_outcome i = go (ℕ_discrete (start b i) (length b))
    where
      go : Dec (start b i ≡ length b) → RowsOutcome b most i i (rows_from b most 0 (start b i))
      go (yes e) = rw (from_whole b most (start b i) e) (all_read (none_fit i i (omega arith)) e)
      go (no e) = rw (from_left b most (start b i) e) (left_over (none_fit i i (omega arith)) e)

  step_outcome : (i n : ℕ) → i < n → RowFits b most (start b i) → {r : Result ℕ Fault} → RowsOutcome b most (i + 1) n r → RowsOutcome b most i n r
  step_outcome i n h f (all_read fs e) = all_read (more_fit i n f fs) e
  step_outcome i n h f (bad_row k l m fs e) = bad_row k (omega arith) m (more_fit i k f fs) e
  step_outcome i n h f (left_over fs e) = left_over (more_fit i n f fs) e

  pub rows_outcome : (n i : ℕ) → RowsOutcome b most i (n + i) (rows_from b most n (start b i))
  rows_outcome zero i = let e : 0 + i ≡ i = omega arith in rw e (end_outcome i)
  rows_outcome (suc n) i = go (row_fits b most (start b i)) refl (rows_outcome n (i + 1))
    where
      go : (t : Bool) → row_fits b most (start b i) ≡ t → RowsOutcome b most (i + 1) (n + (i + 1)) (rows_from b most n (start b (i + 1))) → RowsOutcome b most i (suc n + i) (rows_from b most (suc n) (start b i))
      go true e ih =
          let m : suc n + i ≡ n + (i + 1) = omega arith in
          rw (from_row b most n (start b i) e, ← (start_next b i), m) (step_outcome i (n + (i + 1)) (omega arith) (yes_fits b most (start b i) e) ih)
      go false e ih =
          rw (from_refused b most n (start b i) e) (bad_row i (omega arith) (omega arith) (none_fit i i (omega arith)) e)

-- ---- the whole sheet

pub data SheetOutcome (b : List ℕ) : Result ℕ Fault → Type 0 where
  too_short : length b < 7 → SheetOutcome b (Err (fault 3 0))
  miscounted : 7 ≤ length b → (length_field b ≡ length b - 4 → ⊥) → SheetOutcome b (Err (fault 3 0))
  unknown : 7 ≤ length b → length_field b ≡ length b - 4 → limit_of (version_of b) ≡ None → SheetOutcome b (Err (fault 4 4))
  too_many : (most : ℕ) → 7 ≤ length b → length_field b ≡ length b - 4 → limit_of (version_of b) ≡ Some most → most_rows < row_count_of b → SheetOutcome b (Err (fault 5 5))
  rows_read : (most : ℕ) → 7 ≤ length b → length_field b ≡ length b - 4 → limit_of (version_of b) ≡ Some most → row_count_of b ≤ most_rows → {r : Result ℕ Fault} → RowsOutcome b most 0 (row_count_of b) r → SheetOutcome b r

module _ (b : List ℕ) where
  rows_of : (most : ℕ) → RowsOutcome b most 0 (row_count_of b) (rows_from b most (row_count_of b) 7)
  rows_of most =
      let e : row_count_of b + 0 ≡ row_count_of b = omega arith in
      subst (λ n. RowsOutcome b most 0 n (rows_from b most (row_count_of b) 7)) e (rw (start_first b) at (rows_outcome b most (row_count_of b) 0))

  module _ (h : 7 ≤ length b) (f : length_field b ≡ length b - 4) where
    by_limit_lem : (l : Option ℕ) → limit_of (version_of b) ≡ l → SheetOutcome b (read_sheet b)
    by_limit_lem None e = rw (← (head_unknown b (length_field b) h refl (version_of b) (limit_of (version_of b)) f refl refl e)) (unknown h f e)
    by_limit_lem (Some most) e = go (dec_le (row_count_of b) most_rows)
      where
        go : Dec (row_count_of b ≤ most_rows) → SheetOutcome b (read_sheet b)
        go (no q) = rw (← (head_many b (length_field b) h refl (version_of b) (limit_of (version_of b)) f refl refl most (row_count_of b) e refl (omega arith))) (too_many most h f e (omega arith))
        go (yes q) = rw (← (head_rows b (length_field b) h refl (version_of b) (limit_of (version_of b)) f refl refl most (row_count_of b) e refl (rows_from b most (row_count_of b) 7) q refl)) (rows_read most h f e q (rows_of most))

  pub sheet_outcome : SheetOutcome b (read_sheet b)
  sheet_outcome = go (dec_lt (length b) 7)
    where
      long : 7 ≤ length b → Dec (length_field b ≡ length b - 4) → SheetOutcome b (read_sheet b)
      long h (yes f) = by_limit_lem h f (limit_of (version_of b)) refl
      long h (no f) = rw (← (head_miscounted b (length_field b) h refl f)) (miscounted h f)

      go : Dec (length b < 7) → SheetOutcome b (read_sheet b)
      go (yes h) = rw (← (head_short b h)) (too_short h)
      go (no h) = long (omega arith) (ℕ_discrete (length_field b) (length b - 4))

-- ---- a refusal has a number of the table

rows_number : {b : List ℕ} {most i n : ℕ} {r : Result ℕ Fault} → RowsOutcome b most i n r → (f : Fault) → r ≡ Err f → f.number ≡ 0 → ⊥
rows_number (all_read fs e) f q z = let w : ◌≡◌ {A = ℕ} 0 1 = cc in omega arith
rows_number (bad_row k l m fs e) f q z = let w : f.number ≡ 5 = cc in omega arith
rows_number (left_over fs e) f q z = let w : f.number ≡ 5 = cc in omega arith

pub outcome_number : {b : List ℕ} {r : Result ℕ Fault} → SheetOutcome b r → (f : Fault) → r ≡ Err f → f.number ≡ 0 → ⊥
outcome_number (too_short l) f q z = let w : f.number ≡ 3 = cc in omega arith
outcome_number (miscounted h n) f q z = let w : f.number ≡ 3 = cc in omega arith
outcome_number (unknown h g u) f q z = let w : f.number ≡ 4 = cc in omega arith
outcome_number (too_many most h g i m) f q z = let w : f.number ≡ 5 = cc in omega arith
outcome_number (rows_read most h g i few o) f q z = rows_number o f q z

pub refused_number : (b : List ℕ) (f : Fault) → Err f ≡ read_sheet b → f.number ≡ 0 → ⊥
refused_number b f e = outcome_number (sheet_outcome b) f (sym e)
