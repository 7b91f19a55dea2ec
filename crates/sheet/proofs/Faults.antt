-- The place beside each number is the one that the words name: the length field, byte 4, the row count or the row, the first byte left over, the input.
use Prim.Native.Nat.{ℕ, ◌≤◌}
use native.Mathlib.Omega.{arith}
use native.Mathlib.Decide.{ℕ_discrete}
use mathlib.Core.Path.{◌≡◌, refl}
use mathlib.Core.Bool.{false}
use mathlib.Core.List.{List, [], ◌∷◌, ◌++◌}
use mathlib.Core.Logic.{inl, inr}
use lib.Dec.{leb, eqb}
use Rattle.rules.specs.Pick.{pick}
use Rattle.rules.specs.Refusals.{Refusal, FirstIn, First, ◌when◌}
use Rattle.rules.proofs.Refusals.{first_front, first_unique, done_none, past_first}
use Rattle.sheet.specs.Format.{version_of, row_count_of, start, most_rows}
use Rattle.sheet.specs.Read.{limit_of, row_fits, read_sheet, number_of, fault_of}
use Rattle.sheet.specs.declared.fault.Fault.{Fault}
use Rattle.std.specs.Prelude.{Option, Some, None, Result, Ok, Err}
use Rattle.sheet.specs.Points.{PointsNowhere, NamesStore, rows_point}
use Rattle.sheet.specs.Refusals.{sheet_refusals}
use Rattle.sheet.specs.Faults.{RowFits, FaultSays, at_length, at_version, at_row_count, at_row, at_rest, fault_at_input, at_none, astray_of, fault_at}
use Rattle.sheet.specs.Front.{sheet_list, old_sheet_list}
use Rattle.sheet.proofs.Rows.{fits_yes}
use Rattle.sheet.proofs.Outcome.{RowsOutcome, all_read, bad_row, left_over, SheetOutcome, too_short, miscounted, unknown, too_many, rows_read, sheet_outcome, outcome_number}
use Rattle.sheet.proofs.Readable.{sheet_first}
use Rattle.sheet.proofs.Pointed.{somewhere_none, nowhere_first}

unfit : (b : List ℕ) (most at : ℕ) → row_fits b most at ≡ false → RowFits b most at → ⊥
unfit b most at e f = let t = fits_yes b most at f in let z : ◌≡◌ {A = ℕ} 0 1 = cc in omega arith

module _ (b : List ℕ) (stored : ℕ) where
  -- ---- 3 to 5

  rows_say : {most : ℕ} {r : Result ℕ Fault} → limit_of (version_of b) ≡ Some most → row_count_of b ≤ most_rows → RowsOutcome b most 0 (row_count_of b) r → (number_of r ≡ 0 → ⊥) → FaultSays b stored (number_of r) (fault_of r)
  rows_say i few (all_read fs e) z = absurd (z refl)
  rows_say {most} i few (bad_row k l m fs e) z = at_row i few k m fs (unfit b most (start b k) e)
  rows_say i few (left_over fs e) z = at_rest i few fs e

  read_says : {r : Result ℕ Fault} → SheetOutcome b r → (number_of r ≡ 0 → ⊥) → FaultSays b stored (number_of r) (fault_of r)
  read_says (too_short l) z = at_length
  read_says (miscounted h n) z = at_length
  read_says (unknown h f u) z = at_version
  read_says (too_many most h f i m) z = at_row_count m
  read_says (rows_read most h f i few o) z = rows_say i few o z

  -- the place that is given is the reader's
  rows_place : {most : ℕ} {r : Result ℕ Fault} → RowsOutcome b most 0 (row_count_of b) r → (number_of r ≡ 0 → ⊥) → (x : ℕ) → pick (eqb (number_of r) 6) x (pick (leb 3 (number_of r)) (pick (leb (number_of r) 5) (fault_of r) 0) 0) ≡ fault_of r
  rows_place (all_read fs e) z x = absurd (z refl)
  rows_place (bad_row k l m fs e) z x = refl
  rows_place (left_over fs e) z x = refl

  read_place : {r : Result ℕ Fault} → SheetOutcome b r → (number_of r ≡ 0 → ⊥) → (x : ℕ) → pick (eqb (number_of r) 6) x (pick (leb 3 (number_of r)) (pick (leb (number_of r) 5) (fault_of r) 0) 0) ≡ fault_of r
  read_place (too_short l) z x = refl
  read_place (miscounted h n) z x = refl
  read_place (unknown h f u) z x = refl
  read_place (too_many most h f i m) z x = refl
  read_place (rows_read most h f i few o) z x = rows_place o z x

  pub fault_read : (number_of (read_sheet b) ≡ 0 → ⊥) → fault_at (number_of (read_sheet b)) b stored ≡ fault_of (read_sheet b)
  unfolding fault_at
  fault_read z = read_place (sheet_outcome b) z (astray_of (rows_point b (row_count_of b) stored (row_count_of b) 7))

  -- the reader's own number and place, also where the sheet is read
  pub reader_says : FaultSays b stored (number_of (read_sheet b)) (fault_of (read_sheet b))
  reader_says = go (read_sheet b) (sheet_outcome b)
    where
      go : (r : Result ℕ Fault) → SheetOutcome b r → FaultSays b stored (number_of r) (fault_of r)
      go (Ok rows) o = at_none {number = 0} (λ i k. omega arith)
      go (Err f) o = read_says o (λ e. outcome_number o f refl e)

  -- ---- 6

  pub fault_six : fault_at 6 b stored ≡ astray_of (rows_point b (row_count_of b) stored (row_count_of b) 7)
  unfolding fault_at
  fault_six = refl

  astray_says : PointsNowhere b stored → FaultSays b stored 6 (astray_of (rows_point b (row_count_of b) stored (row_count_of b) 7))
  astray_says w = go (rows_point b (row_count_of b) stored (row_count_of b) 7) refl
    where
      go : (p : Option ℕ) → rows_point b (row_count_of b) stored (row_count_of b) 7 ≡ p → FaultSays b stored 6 (astray_of p)
      go None e = absurd (somewhere_none b stored e w)
      go (Some at) e = fault_at_input (nowhere_first b (row_count_of b) stored at e)

  -- ---- the numbers that are no fault of a sheet

  pub fault_0 : fault_at 0 b stored ≡ 0
  unfolding fault_at
  fault_0 = refl

  pub fault_1 : fault_at 1 b stored ≡ 0
  unfolding fault_at
  fault_1 = refl

  pub fault_2 : fault_at 2 b stored ≡ 0
  unfolding fault_at
  fault_2 = refl

  pub fault_7 : fault_at 7 b stored ≡ 0
  unfolding fault_at
  fault_7 = refl

  pub fault_8 : fault_at 8 b stored ≡ 0
  unfolding fault_at
  fault_8 = refl

  pub fault_19 : fault_at 19 b stored ≡ 0
  unfolding fault_at
  fault_19 = refl

  -- ---- the place beside the number that is given

  -- 3 to 5 first, and then what other refusals say
  behind_says : (m : List Refusal) {r : ℕ} → (First m r → FaultSays b stored r (fault_at r b stored)) → First (sheet_refusals b ++ m) r → FaultSays b stored r (fault_at r b stored)
  behind_says m {r} says f = go (ℕ_discrete (number_of (read_sheet b)) 0)
    where
      go : Dec (number_of (read_sheet b) ≡ 0) → FaultSays b stored r (fault_at r b stored)
      go (no z) =
          let e = first_unique f (first_front m (sheet_first b) z) in
          rw (e, fault_read z) (read_says (sheet_outcome b) z)
      go (yes z) =
          let n = done_none (λ q. omega arith, (λ q. omega arith, (λ q. omega arith, tt))) (rw z at (sheet_first b)) in
          says (past_first (sheet_refusals b) n f)

  six_says : {r : ℕ} → FirstIn ((6 when PointsNowhere b stored) ∷ []) r → FaultSays b stored r (fault_at r b stored)
  six_says (inl p) = rw (p.1, fault_six) (astray_says p.0)
  six_says (inr p) = rw (p.1, fault_0) (at_none {number = 0} (λ i k. omega arith))

  pub old_fault_says : {r : ℕ} → First (old_sheet_list b stored) r → FaultSays b stored r (fault_at r b stored)
  old_fault_says = behind_says ((6 when PointsNowhere b stored) ∷ []) (λ f. six_says f.first)

module _ (b : List ℕ) where
  pub fault_says : {r : ℕ} → First (sheet_list b) r → FaultSays b 0 r (fault_at r b 0)
  fault_says = behind_says b 0 ((19 when NamesStore b) ∷ (6 when PointsNowhere b 0) ∷ []) (λ f. go f.first)
    where
      go : {r : ℕ} → FirstIn ((19 when NamesStore b) ∷ (6 when PointsNowhere b 0) ∷ []) r → FaultSays b 0 r (fault_at r b 0)
      go (inl p) = rw (p.1, fault_19 b 0) (at_none {number = 19} (λ i k. omega arith))
      go (inr p) = six_says b 0 p.1
