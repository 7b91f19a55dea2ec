-- Inner: the table of row places turned by jumps into the table of where each row is read.
use Rattle.std.specs.Prelude.{ℕ, ◌≤◌, ◌<◌, ◌≡◌, List, length, get_or}
use Rattle.sheet.specs.Points.{PointsNowhere}
use Rattle.store.specs.Layout.{room}
use Rattle.rows.specs.Joined.{source}
use Rattle.rows.specs.View.{Viewed}
use Rattle.rows.specs.Named.{ShortWire, SheetWireLoop}
use Rattle.rows.specs.Tabled.{Fronted}

-- the place of the row that the jump names
abbrev pub spot_of : (table jumps : List ℕ) → ℕ → ℕ
spot_of table jumps i = get_or table (get_or jumps i 0) 0

-- each jump names a row of the sheet, and the jump of that row is the row itself
pub record Settled (rows : ℕ) (jumps : List ℕ) : Type 0 where
  pub long : rows ≤ length jumps
  pub row : (i : ℕ) → i < rows → get_or jumps i 0 < rows
  pub stays : (i : ℕ) → i < rows → get_or jumps (get_or jumps i 0) 0 ≡ get_or jumps i 0

pub record Skipped (table jumps new : List ℕ) : Type 0 where
  pub same : length new ≡ length table
  pub spots : (i : ℕ) → i < length table → get_or new i 0 ≡ spot_of table jumps i

-- a shaped store and a sheet without store numbers, short wires and loops of wires, and the table of where each row is read
pub record Spotted (w b : List ℕ) (stored : ℕ) (table : List ℕ) : Type 0 where
  pub front : Fronted w b stored (length table)
  pub leads : PointsNowhere b 0 → ⊥
  pub straight : ShortWire b → ⊥
  pub unlooped : SheetWireLoop b → ⊥
  pub view : Viewed (source room w stored b) table
