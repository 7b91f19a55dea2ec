-- Inner: rows named between rounds.
use Rattle.std.specs.Prelude.{ℕ, ◌≤◌, ◌<◌, ◌≡◌}
use Rattle.trees.specs.Graph.{Graph}
use Rattle.trees.specs.Sorting.{Coarse}
use Rattle.rounds.specs.Rounds.{SameSig}

-- row u has its name where mark u is 1; rank 0: its class was taken as it was
pub record Naming (g : Graph) (n : ℕ) (m mark : ℕ → ℕ) : Type 0 where
  pub old : ℕ → ℕ
  pub rank : ℕ → ℕ
  pub most : ℕ
  pub few : (u : ℕ) → rank u ≤ most
  pub coarse : Coarse g n old
  pub waits : (u : ℕ) → u < n → (mark u ≡ 1 → ⊥) → m u ≡ old u
  pub taken : (u : ℕ) → u < n → mark u ≡ 1 → rank u ≡ 0 → m u ≡ old u
  pub whole : (u v : ℕ) → u < n → v < n → old u ≡ old v → mark u ≡ 1 → rank u ≡ 0 → (mark v ≡ 1) × (rank v ≡ 0)
  pub below : (u j : ℕ) → u < n → mark u ≡ 1 → 0 < rank u → j < g.count u → (mark (g.input u j) ≡ 1) × (rank (g.input u j) < rank u)
  pub names : (u v : ℕ) → u < n → v < n → mark u ≡ 1 → mark v ≡ 1 → 0 < rank u → 0 < rank v → SameSig g m u v → m u ≡ m v

-- d is the lowest row of the same mark and name
pub record Lowering (n : ℕ) (m mark d : ℕ → ℕ) : Type 0 where
  pub low : (u : ℕ) → u < n → d u ≤ u
  pub marks : (u : ℕ) → u < n → mark (d u) ≡ mark u
  pub same : (u : ℕ) → u < n → m (d u) ≡ m u
  pub least : (u v : ℕ) → u < n → v < d u → mark v ≡ mark u → m v ≡ m u → ⊥
