-- 01's table for a sheet: the number given is the first of 3, 4 and 5 that applies, and 0 exactly for a readable sheet.
use Prim.Native.Nat.{ℕ, zero, suc, ◌+◌, ◌-◌, ◌*◌, ◌≤◌, ◌<◌}
use native.Mathlib.Omega.{arith}
use native.Mathlib.Numerals.{add-one}
use native.Mathlib.Decide.{dec_le, ℕ_discrete}
use mathlib.Core.Path.{◌≡◌, refl, sym, ap, ◌∙◌}
use mathlib.Core.List.{List, [], ◌∷◌}
use mathlib.Core.Bool.{false}
use mathlib.Core.Logic.{inl, inr}
use lib.ListN.{length}
use lib.Dec.{eqb}
use borrow.Author.Tests.{eq-eqb, ne_eqb}
use Rattle.rules.specs.Lists.{widest}
use Rattle.rules.specs.Pick.{pick}
use Rattle.rules.specs.Refusals.{First, ◌when◌, NoneOf}
use Rattle.rules.proofs.Refusals.{first_here, first_later, first_none, first_unique, none_done}
use Rattle.sheet.specs.Format.{length_field, version_of, row_count_of, count_at, row_end, start, inputs_in, most_rows, store_numbers}
use Rattle.sheet.specs.Read.{limit_of, most_of, most_inputs, row_fits, read_sheet, number_of}
use Rattle.sheet.specs.declared.fault.Fault.{Fault}
use Rattle.std.specs.Prelude.{Option, Some, None, Result, Ok}
use Rattle.sheet.specs.Refusals.{WrongLength, WrongRows, sheet_refusals, Readable}
use Rattle.sheet.specs.Faults.{RowsFit}
use Rattle.sheet.proofs.Rows.{fits_yes}
use Rattle.sheet.proofs.Starts.{start_first, start_next, row_inside}
use Rattle.sheet.proofs.Outcome.{RowsOutcome, all_read, bad_row, left_over, SheetOutcome, too_short, miscounted, unknown, too_many, rows_read, sheet_outcome}

-- ---- the version's limit

-- every law behind these is over the limit, whatever the version

pub known : (v most : ℕ) → limit_of v ≡ Some most → v ≡ 1
unfolding limit_of
known v most e = go (ℕ_discrete v 1)
  where
    go : Dec (v ≡ 1) → v ≡ 1
    go (yes q) = q
    go (no q) = let p : ◌≡◌ {A = Option ℕ} None (Some most) = rw (ne_eqb v 1 q) at e in let z : ◌≡◌ {A = ℕ} 0 1 = cc in absurd (omega arith)

pub unknown_is : (v : ℕ) → limit_of v ≡ None → v ≡ 1 → ⊥
unfolding limit_of
unknown_is v e q = let p : ◌≡◌ {A = Option ℕ} (Some 4) None = rw (eq-eqb v 1 q) at e in let z : ◌≡◌ {A = ℕ} 0 1 = cc in omega arith

-- no version allows more inputs than any row has
pub limit_widest : (v : ℕ) → most_of (limit_of v) ≤ widest
unfolding limit_of
limit_widest v = go (ℕ_discrete v 1)
  where
    go : Dec (v ≡ 1) → most_of (pick (eqb v 1) (Some 4) None) ≤ widest
    go (yes q) = rw (eq-eqb v 1 q) (omega arith)
    go (no q) = rw (ne_eqb v 1 q) (omega arith)

pub limit_one : most_of (limit_of 1) ≡ 4
unfolding limit_of
limit_one = refl

-- ---- the rows

module _ (b : List ℕ) (most : ℕ) where
  -- rows that all can be read, and end the file, are none of the wrong ones
  rows_right : RowsFit b most 0 (row_count_of b) → row_count_of b ≤ most_rows → start b (row_count_of b) ≡ length b → WrongRows most b → ⊥
  rows_right fs few e (inl m) = omega arith
  rows_right fs few e (inr (inl c)) = let f = fs.each c.row (omega arith) c.of_sheet in let w = c.crowded in omega (arith, f.within)
  rows_right fs few e (inr (inr n)) = n e

  -- a row that cannot be read is crowded, or ends past the file, and then the rows do
  bad_rows : (k : ℕ) → k < row_count_of b → row_fits b most (start b k) ≡ false → WrongRows most b
  bad_rows k h e = go (dec_le (count_at b (start b k)) most) (dec_le (row_end b (start b k)) (length b))
    where
      go : Dec (count_at b (start b k) ≤ most) → Dec (row_end b (start b k) ≤ length b) → WrongRows most b
      go (no c) d = inr (inl (record { row = k; of_sheet = h; crowded = omega arith }))
      go (yes c) (no d) = inr (inr (λ q. let i = row_inside b k (row_count_of b) (start b k) refl h in absurd (omega arith)))
      go (yes c) (yes d) = let p = fits_yes b most (start b k) (record { within = c; ends = d }) in let z : ◌≡◌ {A = ℕ} 0 1 = cc in absurd (omega arith)

module _ (b : List ℕ) where
  -- ---- the number, from the test that gave it

  length_right : 7 ≤ length b → length_field b ≡ length b - 4 → WrongLength b → ⊥
  length_right h f (inl l) = omega arith
  length_right h f (inr n) = n f

  rows_first : {r : Result ℕ Fault} (most : ℕ) → 7 ≤ length b → length_field b ≡ length b - 4 → limit_of (version_of b) ≡ Some most → row_count_of b ≤ most_rows → RowsOutcome b most 0 (row_count_of b) r → First (sheet_refusals b) (number_of r)
  rows_first most h f i few o = first_later (length_right h f) (first_later (λ w. w (known (version_of b) most i)) (rw i (go o)))
    where
      go : {r : Result ℕ Fault} → RowsOutcome b most 0 (row_count_of b) r → First ((5 when WrongRows most b) ∷ []) (number_of r)
      go (all_read fs e) = first_later (rows_right b most fs few e) first_none
      go (bad_row k l m fs e) = first_here (bad_rows b most k m e)
      go (left_over fs e) = first_here (inr (inr e))

  outcome_first : {r : Result ℕ Fault} → SheetOutcome b r → First (sheet_refusals b) (number_of r)
  outcome_first (too_short l) = first_here (inl l)
  outcome_first (miscounted h n) = first_here (inr n)
  outcome_first (unknown h f u) = first_later (length_right h f) (first_here (unknown_is (version_of b) u))
  outcome_first (too_many most h f i m) = first_later (length_right h f) (first_later (λ w. w (known (version_of b) most i)) (first_here (inl m)))
  outcome_first (rows_read most h f i few o) =
      rows_first most h f i few o

  pub sheet_first : First (sheet_refusals b) (number_of (read_sheet b))
  sheet_first = outcome_first (sheet_outcome b)

  -- ---- done, and what is then known

  rows_readable : {r : Result ℕ Fault} (most : ℕ) → 7 ≤ length b → length_field b ≡ length b - 4 → limit_of (version_of b) ≡ Some most → row_count_of b ≤ most_rows → RowsOutcome b most 0 (row_count_of b) r → number_of r ≡ 0 → Readable b × (r ≡ Ok (row_count_of b))
  rows_readable most h f v few (all_read fs e) z =
      (record { long = h; counted = f; version = known (version_of b) most v; few = few; within = λ i l. rw v (fs.each i (omega arith) l).within; whole = e }, refl)
  rows_readable most h f v few (bad_row k l m fs e) z = absurd (omega arith)
  rows_readable most h f v few (left_over fs e) z = absurd (omega arith)

  outcome_readable : {r : Result ℕ Fault} → SheetOutcome b r → number_of r ≡ 0 → Readable b × (r ≡ Ok (row_count_of b))
  outcome_readable (too_short l) z = absurd (omega arith)
  outcome_readable (miscounted h n) z = absurd (omega arith)
  outcome_readable (unknown h f u) z = absurd (omega arith)
  outcome_readable (too_many most h f i m) z = absurd (omega arith)
  outcome_readable (rows_read most h f i few o) z =
      rows_readable most h f i few o z

  -- a sheet that is read is readable, with as many rows as it says
  pub read_readable : (rows : ℕ) → Ok rows ≡ read_sheet b → Readable b × (rows ≡ row_count_of b)
  read_readable rows e =
      let o = outcome_readable (sheet_outcome b) (ap number_of (sym e)) in
      let q : Ok rows ≡ Ok (row_count_of b) = e ∙ o.1 in
      (o.0, cc)

  -- nothing of the table applies to a readable sheet
  pub readable_right : Readable b → NoneOf (sheet_refusals b)
  readable_right r = (length_right r.long r.counted, ((λ w. w r.version), (wrong, tt)))
    where
      wrong : WrongRows (most_inputs b) b → ⊥
      wrong (inl m) = omega (arith, r.few)
      wrong (inr (inl c)) = omega (arith, r.within c.row c.of_sheet, c.crowded)
      wrong (inr (inr n)) = n r.whole

  -- and it is read
  pub readable_read : Readable b → Ok (row_count_of b) ≡ read_sheet b
  readable_read r =
      sym (outcome_readable (sheet_outcome b) (first_unique sheet_first (none_done (sheet_refusals b) (readable_right r)))).1

-- whatever its version, no row of it has more inputs than any row has
pub readable_within_widest : {b : List ℕ} → Readable b → (i : ℕ) → i < row_count_of b → count_at b (start b i) ≤ widest
readable_within_widest {b} r i h = omega (arith, r.within i h, limit_widest (version_of b))

-- ---- where the rows of a readable sheet can start

starts_low : (b : List ℕ) (n : ℕ) → ((i : ℕ) → i < n → count_at b (start b i) ≤ widest) → start b n ≤ 7 + (5 + 2 * widest) * n
starts_low b zero w = omega (arith, start_first b)
starts_low b (suc n) w =
    let l = starts_low b n (λ i h. w i (omega arith)) in
    let c = w n (omega arith) in
    let e : start b (suc n) ≡ row_end b (start b n) = rw add-one at (start_next b n) in
    omega arith

-- no row starts where the numbers of a store begin
pub start_low : (b : List ℕ) → Readable b → start b (row_count_of b) < store_numbers
start_low b r = let l = starts_low b (row_count_of b) (readable_within_widest r) in let f = r.few in omega arith

pub start_few : (b : List ℕ) → Readable b → start b (row_count_of b) < 65536
start_few b r = omega (arith, start_low b r)

-- ---- with r rows and e inputs the file has 7 + 5r + 2e bytes

starts_at : (b : List ℕ) (n : ℕ) → start b n ≡ 7 + 5 * n + 2 * inputs_in b n
unfolding inputs_in
starts_at b zero = start_first b
starts_at b (suc n) =
    let l = starts_at b n in
    let e : start b (suc n) ≡ row_end b (start b n) = rw add-one at (start_next b n) in
    omega arith

pub readable_length : (b : List ℕ) → Readable b → length b ≡ 7 + 5 * row_count_of b + 2 * inputs_in b (row_count_of b)
readable_length b r = sym r.whole ∙ starts_at b (row_count_of b)
