-- Inner: what the length and the writing of a converted sheet ask: the rows in order, no more than a sheet may have.
use Rattle.std.specs.Prelude.{ℕ, ◌≤◌, ◌≡◌, List, length, take}
use Rattle.trees.specs.Graph.{Graph}
use Rattle.store.specs.Layout.{room}
use Rattle.rows.specs.Joined.{Source, drawn}
use Rattle.rows.specs.Tabled.{Tabled}
use Rattle.walks.specs.Key.{keyed}
use Rattle.converts.specs.Result.{FromSheet, converted}
use Rattle.appending.specs.Arranged.{appended_in, Arranged}

pub record Ready (s : Source) (table order places : List ℕ) (total : ℕ) : Type 0 where
  pub tabled : Tabled s.words s.bytes s.stored table
  pub roomy : s.most ≡ room
  pub arranged : Arranged (FromSheet (drawn s) s.stored (length table)) s.stored (length table) order places total
  pub few : total ≤ 1024

-- the rows of the result, each input as its place among them
abbrev pub rows_of : Source → (order : List ℕ) → (total : ℕ) → Graph
rows_of s order total = keyed (drawn s) (take total order)

-- the result
abbrev pub result_of : Source → (table order : List ℕ) → (total : ℕ) → List ℕ
result_of s table order total = converted (drawn s) s.stored (length table) (appended_in (length table) total order)
