-- Inner: two rows of two walked stores compared by value: label, input count, and the places of their inputs in the two walks.
use Rattle.std.specs.Prelude.{ℕ, ◌≤◌, ◌<◌, ◌≡◌, List, length, get_or}
use Rattle.rules.specs.Lists.{widest}
use Rattle.store.specs.Layout.{label_of, count_of, input_of, room}
use Rattle.store.specs.Rows.{RowThere}

-- a row that is there, each of whose inputs has a mark
pub record RowMarked (w marks : List ℕ) (row : ℕ) : Type 0 where
  pub there : RowThere room w row
  pub few : count_of room w row ≤ widest
  pub inputs : (j : ℕ) → j < count_of room w row → input_of room w row j < length marks

-- every row of a queue is such a row
pub record RowsMarked (w marks queue : List ℕ) (filled : ℕ) : Type 0 where
  pub long : filled ≤ length queue
  pub each : (k : ℕ) → k < filled → RowMarked w marks (get_or queue k 0)

-- the first n inputs of two rows have the same places
pub record SamePlaces (w marks : List ℕ) (a : ℕ) (v others : List ℕ) (b n : ℕ) : Type 0 where
  pub each : (j : ℕ) → j < n → get_or marks (input_of room w a j) 0 ≡ get_or others (input_of room v b j) 0

pub record SameRow (w marks : List ℕ) (a : ℕ) (v others : List ℕ) (b : ℕ) : Type 0 where
  pub labels : label_of room w a ≡ label_of room v b
  pub counts : count_of room w a ≡ count_of room v b
  pub places : SamePlaces w marks a v others b (count_of room w a)

pub record SameRows (w marks queue v others line : List ℕ) (n : ℕ) : Type 0 where
  pub each : (k : ℕ) → k < n → SameRow w marks (get_or queue k 0) v others (get_or line k 0)
