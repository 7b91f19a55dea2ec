-- Where inputs point: an input below 32,768 is a row of this sheet. In an old sheet 32,768 + n is row n of the store it was drawn against.
use Rattle.std.specs.Prelude.{ℕ, zero, suc, ◌+◌, ◌-◌, ◌≤◌, ◌<◌, ◌≡◌, List, Bool, false, ltb, Option, Some, None}
use Rattle.rules.specs.Pick.{pick}
use Rattle.sheet.specs.Bytes.{be16}
use Rattle.sheet.specs.Format.{row_count_of, count_at, input_at, row_end, start, store_numbers}

-- an input x points to a row of a sheet with so many rows, or of a store with so many rows in use
unfoldable pub points_to : (rows stored : ℕ) → ℕ → Bool
points_to rows stored x = pick (ltb x store_numbers) (ltb x rows) (ltb (x - store_numbers) stored)

-- some input of the sheet points to no row of sheet or store
pub record PointsNowhere (b : List ℕ) (stored : ℕ) : Type 0 where
  pub row : ℕ
  pub input : ℕ
  pub of_sheet : row < row_count_of b
  pub of_row : input < count_at b (start b row)
  pub astray : points_to (row_count_of b) stored (input_at b (start b row) input) ≡ false

-- some input of the sheet is 32,768 or more: it names a row of a store
pub record NamesStore (b : List ℕ) : Type 0 where
  pub row : ℕ
  pub input : ℕ
  pub of_sheet : row < row_count_of b
  pub of_row : input < count_at b (start b row)
  pub names : store_numbers ≤ input_at b (start b row) input

-- the place of the first of n inputs from a place that points nowhere, else what is said of the inputs after them
unfoldable pub inputs_point : List ℕ → (rows stored n at : ℕ) → Option ℕ → Option ℕ
inputs_point b rows stored zero at rest = rest
inputs_point b rows stored (suc n) at rest =
    pick (points_to rows stored (be16 b at)) (inputs_point b rows stored n (at + 2) rest) (Some at)

-- the same of n rows from a place: the first row, and in it the first input
unfoldable pub rows_point : List ℕ → (rows stored n at : ℕ) → Option ℕ
rows_point b rows stored zero at = None
rows_point b rows stored (suc n) at =
    inputs_point b rows stored (count_at b at) (at + 5) (rows_point b rows stored n (row_end b at))
