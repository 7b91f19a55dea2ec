-- A row by value: label, input count, and its inputs in an array with room for the most, unused ones zero.
use Rattle.std.specs.Prelude.{ℕ, ◌+◌, ◌≤◌, ◌<◌, List, ◌∷◌, length, take}
use Rattle.rules.specs.Lists.{in_room, widest}
use Rattle.store.specs.Layout.{label_of, count_of, input_of, row_word}
use Rattle.store.specs.declared.row.Row.{Row}

-- the words of row n are all there
pub record RowThere (most : ℕ) (w : List ℕ) (n : ℕ) : Type 0 where
  pub limit : most ≤ widest
  pub low : n < 1024
  pub room : row_word most n + (most + 2) ≤ length w

unfoldable pub row_of : (most : ℕ) → List ℕ → ℕ → Row
row_of most w n =
    record {
      label = label_of most w n;
      count = count_of most w n;
      inputs = in_room widest (input_of most w n) most;
    }

-- the words of a row, as they stand in a store with room for so many inputs a row
unfoldable pub words_of_row : (most : ℕ) → Row → List ℕ
words_of_row most row = row.label ∷ row.count ∷ take most row.inputs
