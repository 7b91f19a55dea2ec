-- Rows in an order in which each row that is no hold stands before all its inputs.
use Rattle.std.specs.Prelude.{ℕ, suc, ◌≤◌, ◌<◌, ◌≡◌, List, get_or}
use Rattle.trees.specs.Graph.{Graph}
use Rattle.loops.specs.Loops.{Hold}

-- row x stands in the list, at a place from one up to another
pub record StandsIn (rows : List ℕ) (from to x : ℕ) : Type 0 where
  pub place : ℕ
  pub low : from ≤ place
  pub high : place < to
  pub is : get_or rows place 0 ≡ x

-- so many first rows of the list: the inputs of each are among them, and behind it unless it is a hold
pub record Ordered (g : Graph) (rows : List ℕ) (filled : ℕ) : Type 0 where
  pub all : (k j : ℕ) → k < filled → j < g.count (get_or rows k 0) → StandsIn rows 0 filled (g.input (get_or rows k 0) j)
  pub behind : (k j : ℕ) → k < filled → (Hold g (get_or rows k 0) → ⊥) → j < g.count (get_or rows k 0)
      → StandsIn rows (suc k) filled (g.input (get_or rows k 0) j)
