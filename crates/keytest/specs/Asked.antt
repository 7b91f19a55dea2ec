-- Inner: what is known of a sheet before its trees and its order are looked at.
use Rattle.std.specs.Prelude.{ℕ, ◌<◌, ◌≡◌, List}
use Rattle.sheet.specs.Format.{row_count_of}
use Rattle.sheet.specs.Points.{PointsNowhere}
use Rattle.sheet.specs.Refusals.{Readable}

-- a readable sheet of so many rows, at least one, whose inputs all point to one of them
pub record SomeRows (b : List ℕ) (rows : ℕ) : Type 0 where
  pub readable : Readable b
  pub numbered : rows ≡ row_count_of b
  pub some : 0 < row_count_of b
  pub leads : PointsNowhere b 0 → ⊥
