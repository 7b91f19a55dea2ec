-- Inner: what is counted by the marks in the list, before the rows are cleaned.
use Rattle.std.specs.Prelude.{ℕ, ◌≤◌, ◌<◌, ◌≡◌, Bool, false, List, length, eqb}
use Rattle.rules.specs.Pick.{pick}
use Rattle.rules.specs.Lists.{widest}
use Rattle.store.specs.Layout.{capacity_of}
use Rattle.store.specs.Rows.{RowThere}
use Rattle.mends.specs.Counts.{tally, total, wire_of, unused_set}
use Rattle.mends.specs.Entries.{entry_of}

abbrev pub one_if : Bool → ℕ
one_if t = pick t 1 0

-- row u is marked
unfoldable pub marked_at : List ℕ → ℕ → Bool
marked_at list u = eqb (entry_of list u) 4294967295

-- row u is a wire that is not
unfoldable pub wire_left : (most : ℕ) → (w list : List ℕ) → ℕ → Bool
wire_left most w list u = pick (marked_at list u) false (wire_of most w u)

-- input word j of row u is unused and not zero
unfoldable pub word_set : (most : ℕ) → List ℕ → (u j : ℕ) → Bool
word_set most w u j = unused_set most w u j

-- how many such words row u has, if it is not marked
unfoldable pub cleared_left : (most : ℕ) → (w list : List ℕ) → ℕ → ℕ
cleared_left most w list u = pick (marked_at list u) 0 (tally (unused_set most w u) most)

-- r is the sum over the numbers below n, where each of them is given one number
pub record Summed (n : ℕ) (gives : ℕ → ℕ → Type 0) (r : ℕ) : Type 0 where
  pub is : (f : ℕ → ℕ) → ((u x : ℕ) → u < n → gives u x → x ≡ f u) → r ≡ total f n

-- row u is there, and has an entry
pub record RowLooked (most : ℕ) (w list : List ℕ) (u : ℕ) : Type 0 where
  pub there : RowThere most w u
  pub entry : u < length list

-- the first n rows are there, with an entry each
pub record TallyAsks (most n : ℕ) (w list : List ℕ) : Type 0 where
  pub limit : most ≤ widest
  pub room : n ≤ capacity_of most (length w)
  pub entries : n ≤ length list

pub record Counted (most n : ℕ) (w list : List ℕ) (dropped wires cleared : ℕ) : Type 0 where
  pub drops : dropped ≡ tally (marked_at list) n
  pub wired : wires ≡ tally (wire_left most w list) n
  pub clears : cleared ≡ total (cleared_left most w list) n
