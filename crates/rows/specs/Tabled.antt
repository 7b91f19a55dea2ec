-- Inner: a store and a sheet whose rows can be read together, and the table of the places at which the sheet's rows start.
use Rattle.std.specs.Prelude.{ℕ, ◌<◌, ◌≡◌, List, length}
use Rattle.rules.specs.Lists.{firsts}
use Rattle.sheet.specs.Format.{row_count_of, start}
use Rattle.sheet.specs.Points.{PointsNowhere}
use Rattle.sheet.specs.Refusals.{Readable}
use Rattle.store.specs.Layout.{in_use, room}
use Rattle.store.specs.Sound.{Shaped}

-- a shaped store with so many rows in use, and a readable sheet of so many rows whose inputs all point somewhere
pub record Fronted (w b : List ℕ) (stored rows : ℕ) : Type 0 where
  pub words : 0 < length w
  pub shaped : Shaped room w
  pub counted : stored ≡ in_use w
  pub readable : Readable b
  pub numbered : rows ≡ row_count_of b
  pub leads : PointsNowhere b stored → ⊥

-- the table says where each row of the sheet starts
pub record Tabled (w b : List ℕ) (stored : ℕ) (table : List ℕ) : Type 0 where
  pub front : Fronted w b stored (length table)
  pub places : table ≡ firsts (start b) (length table)
