-- Inner: what the test of wires asks: a readable sheet whose inputs all point to rows of it or of a store with so many, and the table of its row places.
use Rattle.std.specs.Prelude.{ℕ, ◌<◌, ◌≡◌, List, length, get_or}
use Rattle.sheet.specs.Format.{row_count_of, start}
use Rattle.sheet.specs.Points.{PointsNowhere}
use Rattle.sheet.specs.Refusals.{Readable}

pub record Placed (b table : List ℕ) : Type 0 where
  pub stored : ℕ
  pub readable : Readable b
  pub leads : PointsNowhere b stored → ⊥
  pub numbered : length table ≡ row_count_of b
  pub places : (i : ℕ) → i < length table → get_or table i 0 ≡ start b i
