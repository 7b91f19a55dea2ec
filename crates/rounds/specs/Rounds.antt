-- Inner: what a round over classes asks and leaves.
use Rattle.std.specs.Prelude.{ℕ, ◌≤◌, ◌<◌, ◌≡◌}
use Rattle.trees.specs.Graph.{Graph}
use Rattle.trees.specs.Agreement.{Alike}

-- label, input count and the classes of the inputs are equal
pub record SameSig (g : Graph) (c : ℕ → ℕ) (u v : ℕ) : Type 0 where
  pub alike : Alike g u g v
  pub inputs : (j : ℕ) → j < g.count u → c (g.input u j) ≡ c (g.input v j)

-- of one old class, and of one signature
pub record Together (g : Graph) (c : ℕ → ℕ) (u v : ℕ) : Type 0 where
  pub old : c u ≡ c v
  pub sig : SameSig g c u v

-- v is the lowest row that goes with u
pub record LowestWith (g : Graph) (c : ℕ → ℕ) (u v : ℕ) : Type 0 where
  pub goes : Together g c v u
  pub least : (w : ℕ) → w < v → Together g c w u → ⊥

-- the classes of the first m rows after the round
pub record Refined (g : Graph) (c : ℕ → ℕ) (m : ℕ) (d : ℕ → ℕ) : Type 0 where
  pub each : (u : ℕ) → u < m → LowestWith g c u (d u)

-- a class's number is its lowest row
pub record Lowered (n : ℕ) (c : ℕ → ℕ) : Type 0 where
  pub low : (u : ℕ) → u < n → c u ≤ u
  pub own : (u : ℕ) → u < n → c (c u) ≡ c u
