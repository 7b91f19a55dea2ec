-- Inner: classes between two rounds.
use Rattle.std.specs.Prelude.{ℕ, ◌≤◌, List, length}
use Rattle.trees.specs.Graph.{Graph}
use Rattle.trees.specs.Sorting.{Coarse}
use Rattle.rounds.specs.Classes.{class_of, Stands}
use Rattle.rounds.specs.Placing.{Classes, Stale}

-- the classes of n rows, refined some times, in an array whose other entries stand
pub record Sorting (g : Graph) (n : ℕ) (old cls new links : List ℕ) : Type 0 where
  pub classes : Classes n cls
  pub coarse : Coarse g n (class_of cls)
  pub new_long : n ≤ length new
  pub stale : Stale n cls links
  pub stands : Stands n old cls
