-- Inputs scanned row by row: what is said of the inputs from here on is said of the whole sheet.
use Prim.Native.Nat.{ℕ, suc, ◌+◌, ◌-◌, ◌*◌, ◌≤◌, ◌<◌}
use native.Mathlib.Omega.{arith}
use mathlib.Core.Path.{◌≡◌, refl, sym, ap, ◌∙◌}
use mathlib.Core.List.{List}
use mathlib.Core.Bool.{Bool, true, false}
use lib.ListN.{length}
use Rattle.sheet.specs.Bytes.{byte_at, be16}
use Rattle.sheet.specs.Format.{count_at, row_end, start}
use Rattle.std.specs.Prelude.{Option, Some, None}
use Rattle.sheet.specs.Points.{points_to, inputs_point, rows_point}
use Rattle.sheet.proofs.Starts.{start_first, start_next, row_inside}

-- ---- the clauses

module _ (b : List ℕ) (rows stored : ℕ) where
  pub input_points : (n at : ℕ) (rest : Option ℕ) → points_to rows stored (be16 b at) ≡ true → inputs_point b rows stored (suc n) at rest ≡ inputs_point b rows stored n (at + 2) rest
  unfolding inputs_point
  input_points n at rest e = simp e

  pub input_lost : (n at : ℕ) (rest : Option ℕ) → points_to rows stored (be16 b at) ≡ false → inputs_point b rows stored (suc n) at rest ≡ Some at
  unfolding inputs_point
  input_lost n at rest e = simp e

  pub inputs_out : (at : ℕ) (rest : Option ℕ) → inputs_point b rows stored 0 at rest ≡ rest
  unfolding inputs_point
  inputs_out at rest = refl

  pub rows_out : (at : ℕ) → rows_point b rows stored 0 at ≡ None
  unfolding rows_point
  rows_out at = refl

  pub row_of : (n at : ℕ) → rows_point b rows stored (suc n) at ≡ inputs_point b rows stored (count_at b at) (at + 5) (rows_point b rows stored n (row_end b at))
  unfolding rows_point
  row_of n at = refl

-- ---- the loops: i rows are scanned; in row i, j inputs

pub record RowsScanned (b : List ℕ) (rows limit stored : ℕ) (at i : ℕ) : Type 0 where
  pub some : i ≤ rows
  pub here : at ≡ start b i
  pub rest : rows_point b limit stored (rows - i) at ≡ rows_point b limit stored rows 7

pub record InputsScanned (b : List ℕ) (rows limit stored i count : ℕ) (at j : ℕ) : Type 0 where
  pub row : i < rows
  pub counted : count ≡ count_at b (start b i)
  pub some : j ≤ count
  pub here : at ≡ start b i + 5 + 2 * j
  pub within : start b i + 5 + 2 * count ≤ length b
  pub rest : inputs_point b limit stored (count - j) at (rows_point b limit stored (rows - (i + 1)) (start b (i + 1))) ≡ rows_point b limit stored rows 7

module _ (b : List ℕ) (rows limit stored : ℕ) where
  pub scan_none : RowsScanned b rows limit stored 7 0
  scan_none =
      record {
        some = omega arith;
        here = sym (start_first b);
        rest = ap (λ n. rows_point b limit stored n 7) (omega arith);
      }

  pub scan_row_lem : (at i count : ℕ) → RowsScanned b rows limit stored at i → i < rows → start b rows ≤ length b → count ≡ byte_at b (at + 4) → InputsScanned b rows limit stored i count (at + 5) 0
  scan_row_lem at i count s h l e =
      let m : rows - i ≡ suc (rows - (i + 1)) = omega arith in
      let c : count ≡ count_at b (start b i) = rw (← s.here) e in
      let w = row_inside b i rows (start b i) refl h in
      record {
        row = h;
        counted = c;
        some = omega arith;
        here = omega (arith, s.here);
        within = rw c (omega arith);
        rest =
            ap (λ n. inputs_point b limit stored n (at + 5) (rows_point b limit stored (rows - (i + 1)) (start b (i + 1)))) (omega (arith, e))
            ∙ ap (λ p. inputs_point b limit stored (count_at b at) (at + 5) (rows_point b limit stored (rows - (i + 1)) p)) (start_next b i ∙ ap (row_end b) (sym s.here))
            ∙ sym (row_of b limit stored (rows - (i + 1)) at)
            ∙ ap (λ n. rows_point b limit stored n at) (sym m)
            ∙ s.rest;
      }

  module _ (at i count j : ℕ) (s : InputsScanned b rows limit stored i count at j) where
    module _ (x : ℕ) (t : Bool) (h : j < count) (e : x ≡ be16 b at) (p : t ≡ points_to limit stored x) where
      told : (a : Bool) → t ≡ a → points_to limit stored (be16 b at) ≡ a
      told a q = ap (points_to limit stored) (sym e) ∙ sym p ∙ q

      left : count - j ≡ suc (count - (j + 1))
      left = omega arith

      after : Option ℕ
      after = rows_point b limit stored (rows - (i + 1)) (start b (i + 1))

      pub scan_input : t ≡ true → InputsScanned b rows limit stored i count (at + 2) (j + 1)
      unfolding after
      scan_input q =
          record {
            row = s.row;
            counted = s.counted;
            some = omega arith;
            here = omega (arith, s.here);
            within = s.within;
            rest =
                sym (input_points b limit stored (count - (j + 1)) at after (told true q))
                ∙ ap (λ n. inputs_point b limit stored n at after) (sym left)
                ∙ s.rest;
          }

      pub scan_astray : t ≡ false → Some at ≡ rows_point b limit stored rows 7
      unfolding after
      scan_astray q =
          sym (input_lost b limit stored (count - (j + 1)) at after (told false q))
          ∙ ap (λ n. inputs_point b limit stored n at after) (sym left)
          ∙ s.rest

    pub scan_next : count ≤ j → RowsScanned b rows limit stored at (i + 1)
    scan_next h =
        let r = s.row in
        let z : 0 ≡ count - j = omega arith in
        let e : j ≡ count = omega (arith, s.some) in
        let p : at ≡ start b (i + 1) = s.here ∙ ap (λ n. start b i + 5 + 2 * n) (e ∙ s.counted) ∙ sym (start_next b i) in
        record {
          some = omega arith;
          here = p;
          rest =
              ap (rows_point b limit stored (rows - (i + 1))) p
              ∙ sym (inputs_out b limit stored at _)
              ∙ ap (λ n. inputs_point b limit stored n at (rows_point b limit stored (rows - (i + 1)) (start b (i + 1)))) z
              ∙ s.rest;
        }

  pub scan_done : (at i : ℕ) → RowsScanned b rows limit stored at i → rows ≤ i → None ≡ rows_point b limit stored rows 7
  scan_done at i s h =
      let z : 0 ≡ rows - i = omega arith in
      sym (rows_out b limit stored at) ∙ ap (λ n. rows_point b limit stored n at) z ∙ s.rest
