-- Inner: a row of the sheet by value, with each input as the row of the view that it leads to.
use Rattle.std.specs.Prelude.{ℕ, ◌≤◌, List, length}
use Rattle.rules.specs.Lists.{in_room, widest}
use Rattle.sheet.specs.Format.{label_at, count_at, row_end}
use Rattle.store.specs.declared.row.Row.{Row}
use Rattle.rows.specs.Joined.{resolved_at}

-- the bytes of the row at a place are all there, it has room, and the store has no more rows than a store may have
pub record SheetRowThere (b : List ℕ) (stored at : ℕ) : Type 0 where
  pub rows : stored ≤ 1024
  pub few : count_at b at ≤ widest
  pub ends : row_end b at ≤ length b

unfoldable pub sheet_row : List ℕ → (stored at : ℕ) → Row
sheet_row b stored at =
    record {
      label = label_at b at;
      count = count_at b at;
      inputs = in_room widest (resolved_at b stored at) (count_at b at);
    }
