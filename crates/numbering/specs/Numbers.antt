-- Numbers by first appearance. c u is the first row with the tree of row u; a row that is its own first is the first appearance of its tree.
use Rattle.std.specs.Prelude.{ℕ, zero, suc, ◌+◌, ◌<◌, ◌≡◌, eqb}
use Rattle.rules.specs.Pick.{pick}
use Rattle.trees.specs.Graph.{Graph}
use Rattle.trees.specs.Agreement.{Alike}

-- how many trees appear first below row u
unfoldable pub trees_below : (ℕ → ℕ) → ℕ → ℕ
trees_below c zero = 0
trees_below c (suc u) = trees_below c u + pick (eqb (c u) u) 1 0

-- a tree's number: how many trees appear before it
unfoldable pub row_number : (ℕ → ℕ) → ℕ → ℕ
row_number c u = trees_below c (c u)

-- s has, at its number, the row of each of the first n rows of g that is the first appearance of its tree, with each input as the number of its tree
pub record NumberedRows (g : Graph) (n : ℕ) (c : ℕ → ℕ) (s : Graph) : Type 0 where
  pub alike : (u : ℕ) → u < n → c u ≡ u → Alike g u s (row_number c u)
  pub inputs : (u : ℕ) → u < n → c u ≡ u → (j : ℕ) → j < g.count u → s.input (row_number c u) j ≡ row_number c (g.input u j)
