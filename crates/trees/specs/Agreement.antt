-- Agreement at a depth between a row of one graph and a row of another, and the same tree.
use Rattle.std.specs.Prelude.{ℕ, zero, suc, ◌<◌, ◌≡◌}
use Rattle.trees.specs.Graph.{Graph}

-- label and input count are equal
pub record Alike (g : Graph) (u : ℕ) (h : Graph) (v : ℕ) : Type 0 where
  pub labels : g.label u ≡ h.label v
  pub counts : g.count u ≡ h.count v

-- at depth 0 when label and input count are equal; at depth k + 1 when at depth 0 and each pair of corresponding inputs at depth k
unfoldable pub Agree : ℕ → Graph → ℕ → Graph → ℕ → Type 0
Agree zero g u h v = Alike g u h v
Agree (suc k) g u h v = Alike g u h v × ((j : ℕ) → j < g.count u → Agree k g (g.input u j) h (h.input v j))

-- they have the same tree when they agree at every depth
pub record SameTree (g : Graph) (u : ℕ) (h : Graph) (v : ℕ) : Type 0 where
  pub agree : (k : ℕ) → Agree k g u h v

-- no two of the first n rows have the same tree (003, 1.18)
pub record Minimal (g : Graph) (n : ℕ) : Type 0 where
  pub apart : (u v : ℕ) → u < n → v < n → SameTree g u g v → u ≡ v
