-- Numbers 6 and 19: the scan finds none exactly when no input points nowhere, and else gives the place of the first row's first such input.
use Prim.Native.Nat.{ℕ, zero, suc, ◌+◌, ◌≤◌, ◌<◌}
use native.Mathlib.Omega.{arith}
use native.Mathlib.Decide.{dec_lt}
use mathlib.Core.Path.{◌≡◌, refl, subst}
use mathlib.Core.List.{List}
use mathlib.Core.Bool.{Bool, true, false}
use Rattle.sheet.specs.Format.{row_count_of, count_at, input_place, input_at, start, store_numbers}
use Rattle.sheet.specs.Points.{points_to, PointsNowhere, NamesStore, inputs_point, rows_point}
use Rattle.std.specs.Prelude.{Option, Some, None}
use Rattle.sheet.specs.Faults.{InputsPoint, RowsPoint, FirstAstray}
use Rattle.sheet.proofs.Within.{points_row, points_past}
use Rattle.sheet.proofs.Starts.{start_first, start_next}
use Rattle.sheet.proofs.Scanning.{input_points, input_lost, inputs_out, rows_out, row_of}

pub data PointsOutcome (b : List ℕ) (rows stored i n : ℕ) : Option ℕ → Type 0 where
  all_point : RowsPoint b rows stored i n → PointsOutcome b rows stored i n None
  one_astray : {place : ℕ} → FirstAstray b rows stored i n place → PointsOutcome b rows stored i n (Some place)

-- inputs j to n - 1 of one row, and then what is said of the rest
data InputsOutcome (b : List ℕ) (rows stored at j n : ℕ) (rest : Option ℕ) : Option ℕ → Type 0 where
  inputs_all : InputsPoint b rows stored at j n → InputsOutcome b rows stored at j n rest rest
  inputs_one : (m : ℕ) → j ≤ m → m < n → InputsPoint b rows stored at j m → points_to rows stored (input_at b at m) ≡ false → InputsOutcome b rows stored at j n rest (Some (input_place at m))

module _ (b : List ℕ) (rows stored : ℕ) where
  module _ (at : ℕ) (rest : Option ℕ) where
    none_point : (j n : ℕ) → n ≤ j → InputsPoint b rows stored at j n
    none_point j n h = record { each = λ m p q. absurd (omega arith) }

    more_point : (j n : ℕ) → points_to rows stored (input_at b at j) ≡ true → InputsPoint b rows stored at (j + 1) n → InputsPoint b rows stored at j n
    more_point j n e ps = record { each = λ m p q. go m q (dec_lt j m) p }
      where
        go : (m : ℕ) → m < n → Dec (j < m) → j ≤ m → points_to rows stored (input_at b at m) ≡ true
        go m q (yes l) p = ps.each m (omega arith) q
        go m q (no l) p = let w : m ≡ j = omega arith in rw w e

    input_step : (j n : ℕ) → points_to rows stored (input_at b at j) ≡ true → {p : Option ℕ} → InputsOutcome b rows stored at (j + 1) n rest p → InputsOutcome b rows stored at j n rest p
    input_step j n e (inputs_all ps) = inputs_all (more_point j n e ps)
    input_step j n e (inputs_one m l h ps f) = inputs_one m (omega arith) h (more_point j m e ps) f

    inputs_outcome : (n j : ℕ) → InputsOutcome b rows stored at j (n + j) rest (inputs_point b rows stored n (input_place at j) rest)
    inputs_outcome zero j = rw (inputs_out b rows stored) (inputs_all (none_point j (0 + j) (omega arith)))
    inputs_outcome (suc n) j = go (points_to rows stored (input_at b at j)) refl (inputs_outcome n (j + 1))
      where
        go : (t : Bool) → points_to rows stored (input_at b at j) ≡ t → InputsOutcome b rows stored at (j + 1) (n + (j + 1)) rest (inputs_point b rows stored n (input_place at (j + 1)) rest) → InputsOutcome b rows stored at j (suc n + j) rest (inputs_point b rows stored (suc n) (input_place at j) rest)
        go true e ih =
            let m : suc n + j ≡ n + (j + 1) = omega arith in
            let s : input_place at j + 2 ≡ input_place at (j + 1) = omega arith in
            rw (input_points b rows stored n (input_place at j) rest e, m, s) (input_step j (n + (j + 1)) e ih)
        go false e ih =
            rw (input_lost b rows stored n (input_place at j) rest e) (inputs_one j (omega arith) (omega arith) (none_point j j (omega arith)) e)

  -- ---- row by row

  row_points : (i n : ℕ) → InputsPoint b rows stored (start b i) 0 (count_at b (start b i)) → RowsPoint b rows stored (i + 1) n → RowsPoint b rows stored i n
  row_points i n ps rs = record { each = λ m p q. go m q (dec_lt i m) p }
    where
      go : (m : ℕ) → m < n → Dec (i < m) → i ≤ m → InputsPoint b rows stored (start b m) 0 (count_at b (start b m))
      go m q (yes l) p = rs.each m (omega arith) q
      go m q (no l) p = let w : m ≡ i = omega arith in rw w ps

  row_step : (i n : ℕ) {rest p : Option ℕ} → i < n → InputsOutcome b rows stored (start b i) 0 (count_at b (start b i)) rest p → PointsOutcome b rows stored (i + 1) n rest → PointsOutcome b rows stored i n p
  row_step i n h (inputs_all ps) (all_point rs) = all_point (row_points i n ps rs)
  row_step i n h (inputs_all ps) (one_astray a) =
      one_astray
      (record {
        row = a.row;
        input = a.input;
        from = omega (arith, a.from);
        before = a.before;
        of_row = a.of_row;
        here = a.here;
        astray = a.astray;
        rows_pointing = row_points i a.row ps a.rows_pointing;
        inputs_pointing = a.inputs_pointing;
      })
  row_step i n h (inputs_one m l k ps f) rest =
      one_astray
      (record {
        row = i;
        input = m;
        from = omega arith;
        before = h;
        of_row = k;
        here = refl;
        astray = f;
        rows_pointing = record { each = λ r p q. absurd (omega arith) };
        inputs_pointing = ps;
      })

  pub points_outcome : (n i : ℕ) → PointsOutcome b rows stored i (n + i) (rows_point b rows stored n (start b i))
  points_outcome zero i = rw (rows_out b rows stored) (all_point (record { each = λ m p q. absurd (omega arith) }))
  points_outcome (suc n) i =
      let m : suc n + i ≡ n + (i + 1) = omega arith in
      let c : count_at b (start b i) + 0 ≡ count_at b (start b i) = omega arith in
      let p : input_place (start b i) 0 ≡ start b i + 5 = omega arith in
      let o = inputs_outcome (start b i) (rows_point b rows stored n (start b (i + 1))) (count_at b (start b i)) 0 in
      rw (row_of b rows stored n (start b i), ← (start_next b i), m) (row_step i (n + (i + 1)) (omega arith) (rw (c, p) at o) (points_outcome n (i + 1)))

-- ---- the whole sheet, with any limit

module _ (b : List ℕ) (limit stored : ℕ) where
  whole : PointsOutcome b limit stored 0 (row_count_of b) (rows_point b limit stored (row_count_of b) 7)
  whole =
      let e : row_count_of b + 0 ≡ row_count_of b = omega arith in
      subst (λ n. PointsOutcome b limit stored 0 n (rows_point b limit stored (row_count_of b) 7)) e
      (rw (start_first b) at (points_outcome b limit stored (row_count_of b) 0))

  pub nowhere_first : (place : ℕ) → rows_point b limit stored (row_count_of b) 7 ≡ Some place → FirstAstray b limit stored 0 (row_count_of b) place
  nowhere_first place e = go (rw e at whole)
    where
      go : PointsOutcome b limit stored 0 (row_count_of b) (Some place) → FirstAstray b limit stored 0 (row_count_of b) place
      go (one_astray a) = a

  -- where the scan finds none, there is none
  somewhere_all : rows_point b limit stored (row_count_of b) 7 ≡ None → (k j : ℕ) → k < row_count_of b → j < count_at b (start b k) → points_to limit stored (input_at b (start b k) j) ≡ false → ⊥
  somewhere_all e k j h l f = go (rw e at whole)
    where
      go : PointsOutcome b limit stored 0 (row_count_of b) None → ⊥
      go (all_point rs) =
          let t = (rs.each k (omega arith) h).each j (omega arith) l in
          let z : ◌≡◌ {A = ℕ} 0 1 = cc in
          omega arith

-- ---- 6: the limit is the sheet's own rows

module _ (b : List ℕ) (stored : ℕ) where
  pub somewhere_none : rows_point b (row_count_of b) stored (row_count_of b) 7 ≡ None → PointsNowhere b stored → ⊥
  somewhere_none e w = somewhere_all b (row_count_of b) stored e w.row w.input w.of_sheet w.of_row w.astray

  pub nowhere_some : (place : ℕ) → rows_point b (row_count_of b) stored (row_count_of b) 7 ≡ Some place → PointsNowhere b stored
  nowhere_some place e =
      let a = nowhere_first b (row_count_of b) stored place e in
      record { row = a.row; input = a.input; of_sheet = a.before; of_row = a.of_row; astray = a.astray }

-- ---- 19: the limit is 32,768, and there is no store

module _ (b : List ℕ) where
  pub names_none : rows_point b store_numbers 0 (row_count_of b) 7 ≡ None → NamesStore b → ⊥
  names_none e w = somewhere_all b store_numbers 0 e w.row w.input w.of_sheet w.of_row (points_past store_numbers (input_at b (start b w.row) w.input) w.names)

  pub names_some : (place : ℕ) → rows_point b store_numbers 0 (row_count_of b) 7 ≡ Some place → NamesStore b
  names_some place e =
      let a = nowhere_first b store_numbers 0 place e in
      let x = input_at b (start b a.row) a.input in
      record { row = a.row; input = a.input; of_sheet = a.before; of_row = a.of_row; names = go x a.astray (dec_lt x store_numbers) }
    where
      go : (x : ℕ) → points_to store_numbers 0 x ≡ false → Dec (x < store_numbers) → store_numbers ≤ x
      go x f (yes h) = let t = points_row store_numbers 0 x (omega arith) h in let z : ◌≡◌ {A = ℕ} 0 1 = cc in omega arith
      go x f (no h) = omega arith
