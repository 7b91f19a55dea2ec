-- Where a sheet is wrong: the byte at which the fault starts that a number stands for.
use Rattle.std.specs.Prelude.{ℕ, ◌≤◌, ◌<◌, ◌≡◌, List, true, false, length, leb, eqb, Option, Some, None}
use Rattle.rules.specs.Pick.{pick}
use Rattle.sheet.specs.Format.{version_of, row_count_of, count_at, input_place, input_at, row_end, start, most_rows}
use Rattle.sheet.specs.Read.{limit_of, read_sheet, fault_of}
use Rattle.sheet.specs.Points.{points_to, rows_point}

-- a row at a place can be read: its inputs are within the limit, and it ends within the file
pub record RowFits (b : List ℕ) (most at : ℕ) : Type 0 where
  pub within : count_at b at ≤ most
  pub ends : row_end b at ≤ length b

-- rows i to k - 1 can be read
pub record RowsFit (b : List ℕ) (most i k : ℕ) : Type 0 where
  pub each : (m : ℕ) → i ≤ m → m < k → RowFits b most (start b m)

-- inputs j to n - 1 of the row at a place point somewhere
pub record InputsPoint (b : List ℕ) (rows stored at j n : ℕ) : Type 0 where
  pub each : (m : ℕ) → j ≤ m → m < n → points_to rows stored (input_at b at m) ≡ true

-- all inputs of rows i to k - 1 point somewhere
pub record RowsPoint (b : List ℕ) (rows stored i k : ℕ) : Type 0 where
  pub each : (m : ℕ) → i ≤ m → m < k → InputsPoint b rows stored (start b m) 0 (count_at b (start b m))

-- the first row from row i on, and in it the first input, that points nowhere
pub record FirstAstray (b : List ℕ) (rows stored i n place : ℕ) : Type 0 where
  pub row : ℕ
  pub input : ℕ
  pub from : i ≤ row
  pub before : row < n
  pub of_row : input < count_at b (start b row)
  pub here : place ≡ input_place (start b row) input
  pub astray : points_to rows stored (input_at b (start b row) input) ≡ false
  pub rows_pointing : RowsPoint b rows stored i row
  pub inputs_pointing : InputsPoint b rows stored (start b row) 0 input

-- the place of each number: the length field for 3; byte 4 for 4; for 5 the row count, the first row that is bad, or the first byte left over;
-- for 6 the input itself, the first of the first row that points nowhere; and 0 with every other number
pub data FaultSays (b : List ℕ) (stored : ℕ) : (number place : ℕ) → Type 0 where
  at_length : FaultSays b stored 3 0
  at_version : FaultSays b stored 4 4
  at_row_count : most_rows < row_count_of b → FaultSays b stored 5 5
  at_row : {most : ℕ} → limit_of (version_of b) ≡ Some most → row_count_of b ≤ most_rows → (k : ℕ) → k < row_count_of b → RowsFit b most 0 k → (RowFits b most (start b k) → ⊥) → FaultSays b stored 5 (start b k)
  at_rest : {most : ℕ} → limit_of (version_of b) ≡ Some most → row_count_of b ≤ most_rows → RowsFit b most 0 (row_count_of b) → (start b (row_count_of b) ≡ length b → ⊥) → FaultSays b stored 5 (start b (row_count_of b))
  fault_at_input : {place : ℕ} → FirstAstray b (row_count_of b) stored 0 (row_count_of b) place → FaultSays b stored 6 place
  at_none : {number : ℕ} → (3 ≤ number → number ≤ 6 → ⊥) → FaultSays b stored number 0

-- the same reckoned: by reading the sheet for 3 to 5, by where its inputs point for 6
abbrev pub astray_of : Option ℕ → ℕ
astray_of None = 0
astray_of (Some at) = at

unfoldable pub fault_at : (number : ℕ) → List ℕ → (stored : ℕ) → ℕ
fault_at number b stored =
    pick (eqb number 6) (astray_of (rows_point b (row_count_of b) stored (row_count_of b) 7))
    (pick (leb 3 number) (pick (leb number 5) (fault_of (read_sheet b)) 0) 0)
