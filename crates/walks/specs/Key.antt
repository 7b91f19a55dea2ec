-- The key of a row as rows: the rows that the walk from it meets, in that order, with each input as its place among them.
use Rattle.std.specs.Prelude.{ℕ, ◌+◌, List, [], ◌∷◌, get_or, eqb}
use Rattle.rules.specs.Pick.{pick}
use Rattle.trees.specs.Graph.{Graph}
use Rattle.walks.specs.Walk.{walk}

-- where a row stands in a list (the list's length where it does not)
unfoldable pub place_of : List ℕ → ℕ → ℕ
place_of [] x = 0
place_of (y ∷ l) x = pick (eqb y x) 0 (place_of l x + 1)

-- all rows that the walk from row u meets, in a graph of n rows
abbrev pub walk_all : Graph → (n u : ℕ) → List ℕ
walk_all g n u = walk g (u ∷ []) n

-- the rows of a list as a graph of their own
unfoldable pub keyed : Graph → List ℕ → Graph
keyed g l =
    record {
      label = λ k. g.label (get_or l k 0);
      count = λ k. g.count (get_or l k 0);
      input = λ k j. place_of l (g.input (get_or l k 0) j);
    }

-- the key of row u as a graph: row 0 is the row itself
abbrev pub key_graph : Graph → (n u : ℕ) → Graph
key_graph g n u = keyed g (walk_all g n u)
