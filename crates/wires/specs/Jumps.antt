-- Inner: a row that so many wires lead to.
use Rattle.std.specs.Prelude.{ℕ, ◌≤◌, ◌≡◌}
use Rattle.trees.specs.Graph.{Graph}
use Rattle.wires.specs.Wires.{follow}

-- v is where at least so many wires lead from row u
pub record Jump (g : Graph) (least u v : ℕ) : Type 0 where
  pub steps : ℕ
  pub enough : least ≤ steps
  pub there : v ≡ follow g steps u
