-- The tree of a row by paths (003, 1.10 and 1.13): for each path of input positions, the label and input count reached, or nothing.
use Rattle.std.specs.Prelude.{ℕ, ◌≡◌, List, [], ◌∷◌, ltb}
use Rattle.rules.specs.Pick.{pick}
use Rattle.trees.specs.Graph.{Graph}

-- what a path leads to: a row, or nothing
pub data Reached : Type 0 where
  row : ℕ → Reached
  nowhere : Reached

-- v.ε = v; v.mp = (input m of v).p where v has an input m, else nothing
unfoldable pub reach : Graph → ℕ → List ℕ → Reached
reach g u [] = row u
reach g u (m ∷ p) = pick (ltb m (g.count u)) (reach g (g.input u m) p) nowhere

-- what stands there: a label and an input count, or nothing
pub data Seen : Type 0 where
  seen : (label count : ℕ) → Seen
  nothing : Seen

unfoldable pub look : Graph → Reached → Seen
look g (row v) = seen (g.label v) (g.count v)
look g nowhere = nothing

-- the tree of row u of g
unfoldable pub tree : Graph → ℕ → List ℕ → Seen
tree g u p = look g (reach g u p)

-- some path, the empty one too, leads from u to v
pub record Leads (g : Graph) (u v : ℕ) : Type 0 where
  pub path : List ℕ
  pub there : reach g u path ≡ row v
