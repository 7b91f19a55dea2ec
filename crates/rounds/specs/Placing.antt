-- Inner: rows placed in a round, over the arrays of the sorting.
use Rattle.std.specs.Prelude.{ℕ, ◌+◌, ◌≤◌, ◌<◌, ◌≡◌, List, ◌⊎◌, eqb, length}
use Rattle.rules.specs.Pick.{pick}
use Rattle.trees.specs.Graph.{Graph}
use Rattle.rounds.specs.Rounds.{Refined, Lowered}
use Rattle.rounds.specs.Classes.{class_of}
use Rattle.rounds.specs.Chains.{Chain, Seeking}
use Rattle.rounds.specs.Buckets.{bucket_in}

-- old classes of n rows: there is one for each, by its lowest row
pub record Classes (n : ℕ) (cls : List ℕ) : Type 0 where
  pub long : n ≤ length cls
  pub few : n ≤ 2048
  pub lowered : Lowered n (class_of cls)

-- The array of links has an entry for each row, the new head before it on its chain, and behind them one for each bucket, a head.
abbrev pub head_in : List ℕ → ℕ → ℕ
head_in links b = class_of links (2048 + b)

-- A head that was one before the round is of a round before, and the bucket's chain is empty: so nothing has to be cleared.
abbrev pub start_of : (cls links : List ℕ) → ℕ → ℕ
start_of cls links b = pick (eqb (class_of cls (head_in links b)) (head_in links b)) 0 (head_in links b)

-- every bucket has a head of a round before
pub record Stale (n : ℕ) (cls links : List ℕ) : Type 0 where
  pub long : 4096 ≤ length links
  pub inside : 0 < n → (b : ℕ) → b < 2048 → head_in links b < n
  pub old : 0 < n → (b : ℕ) → b < 2048 → class_of cls (head_in links b) ≡ head_in links b

-- every bucket has a head of a round before, or a new one
pub record Headed (n : ℕ) (cls new links : List ℕ) (u : ℕ) : Type 0 where
  pub inside : 0 < n → (b : ℕ) → b < 2048 → head_in links b < n
  pub each : 0 < n → (b : ℕ) → b < 2048 → (class_of cls (head_in links b) ≡ head_in links b) ⊎ ((head_in links b < u) × (class_of new (head_in links b) ≡ head_in links b))

-- the chains of new heads among the first u rows
abbrev pub Linked : Graph → (cls new links : List ℕ) → ℕ → Type 0
Linked g cls new links u = Chain (bucket_in g (class_of cls)) (class_of cls) (class_of new) (start_of cls links) (class_of links) u

-- the first u of n rows are placed: their new classes, and the chains of new heads
pub record InRound (g : Graph) (n : ℕ) (cls new links : List ℕ) (u : ℕ) : Type 0 where
  pub some : u ≤ n
  pub new_long : n ≤ length new
  pub links_long : 4096 ≤ length links
  pub refined : Refined g (class_of cls) u (class_of new)
  pub headed : Headed n cls new links u
  pub chain : 0 < n → Linked g cls new links u

-- row u looks for its head along its chain, and stands at p
abbrev pub SeekingIn : Graph → (cls new : List ℕ) → (u p : ℕ) → Type 0
SeekingIn g cls new u p = Seeking g (bucket_in g (class_of cls)) (class_of cls) (class_of new) u p
