-- Inner: chains of new heads in buckets.
use Rattle.std.specs.Prelude.{ℕ, ◌<◌, ◌≡◌}
use Rattle.trees.specs.Graph.{Graph}
use Rattle.rounds.specs.Rounds.{Together}

pub record NewHead (c d : ℕ → ℕ) (v : ℕ) : Type 0 where
  pub head : d v ≡ v
  pub late : c v ≡ v → ⊥

-- p is the latest new head of bucket b among the first m rows
pub record Latest (k c d : ℕ → ℕ) (b m p : ℕ) : Type 0 where
  pub below : p < m
  pub new : NewHead c d p
  pub bucket : k p ≡ b
  pub after : (w : ℕ) → p < w → w < m → NewHead c d w → k w ≡ b → ⊥

-- p says the latest new head of bucket b among the first m rows: 0 where there is none (row 0 is never new)
pub record Pointed (k c d : ℕ → ℕ) (b m p : ℕ) : Type 0 where
  pub none : p ≡ 0 → (w : ℕ) → w < m → NewHead c d w → k w ≡ b → ⊥
  pub some : (p ≡ 0 → ⊥) → Latest k c d b m p

pub record Chain (k c d start next : ℕ → ℕ) (m : ℕ) : Type 0 where
  pub starts : (b : ℕ) → b < 2048 → Pointed k c d b m (start b)
  pub nexts : (h : ℕ) → h < m → NewHead c d h → Pointed k c d (k h) h (next h)

-- row u looks along its chain and stands at p, a new head of its bucket or 0: those after p do not go with it
pub record Seeking (g : Graph) (k c d : ℕ → ℕ) (u p : ℕ) : Type 0 where
  pub below : (p ≡ 0 → ⊥) → p < u
  pub new : (p ≡ 0 → ⊥) → NewHead c d p
  pub bucket : (p ≡ 0 → ⊥) → k p ≡ k u
  pub passed : (w : ℕ) → p < w → w < u → NewHead c d w → Together g c w u → ⊥
