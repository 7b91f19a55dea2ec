-- Inner: the slots in which named rows stand.
use Rattle.std.specs.Prelude.{ℕ, suc, ◌+◌, ◌%◌, ◌<◌, ◌≡◌}
use Rattle.trees.specs.Graph.{Graph}
use Rattle.rounds.specs.Rounds.{SameSig}

abbrev pub place : (b k : ℕ) → ℕ
place b k = (b + k) % 2048

-- where the head of row v stands
pub record Stood (g : Graph) (m slot : ℕ → ℕ) (b v : ℕ) : Type 0 where
  pub step : ℕ
  pub near : step < 64
  pub here : slot (place b step) ≡ suc (m v)
  pub sig : SameSig g m (m v) v
  pub before : (i : ℕ) → i < step → slot (place b i) ≡ 0 → ⊥

pub record Slots (g : Graph) (n : ℕ) (m mark rank bucket slot : ℕ → ℕ) : Type 0 where
  pub holders : (p h : ℕ) → slot p ≡ suc h → (h < n) × (mark h ≡ 1) × (0 < rank h) × (m h ≡ h)
  pub stood : (v : ℕ) → v < n → mark v ≡ 1 → 0 < rank v → Stood g m slot (bucket v) v

-- the first k slots from b on are taken by rows without row u's signature
pub record Passed (g : Graph) (m slot : ℕ → ℕ) (b u k : ℕ) : Type 0 where
  pub taken : (i : ℕ) → i < k → slot (place b i) ≡ 0 → ⊥
  pub apart : (i h : ℕ) → i < k → slot (place b i) ≡ suc h → SameSig g m h u → ⊥
