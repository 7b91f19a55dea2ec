-- A sorting of rows into classes (003, 1.19 to 1.21): c u is the class of row u.
use Rattle.std.specs.Prelude.{ℕ, ◌≤◌, ◌<◌, ◌≡◌}
use Rattle.trees.specs.Graph.{Graph}
use Rattle.trees.specs.Agreement.{Alike, SameTree}

-- rows of one class are alike, and their corresponding inputs are of one class: a congruence
pub record Stable (g : Graph) (n : ℕ) (c : ℕ → ℕ) : Type 0 where
  pub alike : (u v : ℕ) → u < n → v < n → c u ≡ c v → Alike g u g v
  pub inputs : (u v : ℕ) → u < n → v < n → c u ≡ c v → (j : ℕ) → j < g.count u → c (g.input u j) ≡ c (g.input v j)

-- rows of one tree are of one class: a distinction
pub record Coarse (g : Graph) (n : ℕ) (c : ℕ → ℕ) : Type 0 where
  pub together : (u v : ℕ) → u < n → v < n → SameTree g u g v → c u ≡ c v

-- one class exactly for one tree
pub record Exact (g : Graph) (n : ℕ) (c : ℕ → ℕ) : Type 0 where
  pub tree : (u v : ℕ) → u < n → v < n → c u ≡ c v → SameTree g u g v
  pub class : (u v : ℕ) → u < n → v < n → SameTree g u g v → c u ≡ c v

-- and each class is the lowest row that has the tree
pub record Sorted (g : Graph) (n : ℕ) (c : ℕ → ℕ) : Type 0 where
  pub exact : Exact g n c
  pub has : (u : ℕ) → u < n → SameTree g (c u) g u
  pub lowest : (u v : ℕ) → u < n → v < n → SameTree g u g v → c u ≤ v
