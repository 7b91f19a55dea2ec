-- Inner: the queue while its rows go. A row that goes is put before those gone before it: so the queue is left in an order in which each row
-- that is no hold stands before its inputs.
use Rattle.std.specs.Prelude.{ℕ, suc, ◌≤◌, ◌<◌, ◌≡◌, List, length, get_or}
use Rattle.trees.specs.Graph.{Graph}
use Rattle.loops.specs.Loops.{Hold}
use Rattle.loops.specs.Orders.{StandsIn}
use Rattle.judging.specs.Verdicts.{state_of}
use Rattle.judging.specs.Moves.{Moved}
use Rattle.judging.specs.Rules.{Peels, peeling}
use Rattle.judging.specs.Queues.{EachOnce}

-- where what stands at place i stood: the entries behind place k, up to place m, have moved up by one, and the one at k stands at m
pub data Came (k m i : ℕ) : ℕ → Type 0 where
  came_before : i < k → Came k m i i
  came_up : k ≤ i → i < m → Came k m i (suc i)
  came_last : i ≡ m → Came k m i k
  came_behind : m < i → Came k m i i

pub record PutBack (k m : ℕ) (old new : List ℕ) : Type 0 where
  pub long : length new ≡ length old
  pub each : (i at : ℕ) → Came k m i at → get_or new i 0 ≡ get_or old at 0

-- so many rows wait; those behind them are gone, and no hold of them stands before an input that is not
pub record Sifting (g : Graph) (stored : ℕ) (state queue : List ℕ) (filled waiting : ℕ) : Type 0 where
  pub once : EachOnce stored queue filled
  pub long : stored ≤ length state
  pub least : waiting ≤ filled
  pub waits : (i : ℕ) → i < waiting → state_of state (get_or queue i 0) ≡ 1
  pub gone : (i : ℕ) → waiting ≤ i → i < filled → state_of state (get_or queue i 0) ≡ 2
  pub all : (u : ℕ) → u < stored → (state_of state u ≡ 0 → ⊥) → StandsIn queue 0 filled u
  pub behind : (k j : ℕ) → waiting ≤ k → k < filled → (Hold g (get_or queue k 0) → ⊥) → j < g.count (get_or queue k 0)
      → StandsIn queue (suc k) filled (g.input (get_or queue k 0) j)

-- what looking at place k says
pub data PlaceSays (g : Graph) (stored filled : ℕ) (old oldq : List ℕ) (waiting k : ℕ) : (state queue : List ℕ) → ℕ → Type 0 where
  place_stays : (Peels g old (get_or oldq k 0) → ⊥) → PlaceSays g stored filled old oldq waiting k old oldq waiting
  place_goes : {state queue : List ℕ} {left : ℕ} → Moved (peeling g) old state → Sifting g stored state queue filled left → suc left ≡ waiting
      → PlaceSays g stored filled old oldq waiting k state queue left

-- the places from k on have been looked at: some rows went, or none could
pub record PassSays (g : Graph) (stored filled : ℕ) (old oldq : List ℕ) (waiting k : ℕ) (state queue : List ℕ) (left : ℕ) : Type 0 where
  pub moved : Moved (peeling g) old state
  pub same : length state ≡ length old
  pub sifting : Sifting g stored state queue filled left
  pub low : k ≤ left
  pub high : left ≤ waiting
  pub still : left ≡ waiting → (i : ℕ) → k ≤ i → i < waiting → Peels g state (get_or queue i 0) → ⊥

-- rows went until none could
pub record QueueSifted (g : Graph) (stored filled : ℕ) (old state queue : List ℕ) (left : ℕ) : Type 0 where
  pub moved : Moved (peeling g) old state
  pub same : length state ≡ length old
  pub sifting : Sifting g stored state queue filled left
  pub still : (i : ℕ) → i < left → Peels g state (get_or queue i 0) → ⊥
