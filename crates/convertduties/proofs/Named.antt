-- A sheet by the old rule that names no row of a store: its inputs are all rows of its own.
use Prim.Native.Nat.{ℕ, ◌<◌}
use native.Mathlib.Omega.{arith}
use native.Mathlib.Decide.{dec_lt}
use mathlib.Core.Path.{◌≡◌, ◌∙◌}
use mathlib.Core.List.{List}
use borrow.Author.Tests.{lt-ltb}
use Rattle.sheet.specs.Format.{row_count_of, input_at, start, store_numbers}
use Rattle.sheet.specs.Points.{points_to, PointsNowhere, NamesStore}

points_low : (rows x stored other : ℕ) → x < store_numbers → points_to rows stored x ≡ points_to rows other x
unfolding points_to
points_low rows x stored other h = simp (lt-ltb x store_numbers h)

pub names_alone : {b : List ℕ} (stored : ℕ) → (NamesStore b → ⊥) → (PointsNowhere b stored → ⊥) → PointsNowhere b 0 → ⊥
names_alone {b} stored none leads x = go (dec_lt (input_at b (start b x.row) x.input) store_numbers)
  where
    go : Dec (input_at b (start b x.row) x.input < store_numbers) → ⊥
    go (yes h) =
        leads
        (record {
          row = x.row;
          input = x.input;
          of_sheet = x.of_sheet;
          of_row = x.of_row;
          astray = points_low (row_count_of b) (input_at b (start b x.row) x.input) stored 0 h ∙ x.astray;
        })
    go (no h) = none (record { row = x.row; input = x.input; of_sheet = x.of_sheet; of_row = x.of_row; names = omega arith })
