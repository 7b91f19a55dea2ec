-- Inner: store rows met, and the rows looked at one after another: the sheet's rows, and then those of the queue.
use Rattle.std.specs.Prelude.{ℕ, zero, suc, ◌+◌, ◌-◌, ◌≤◌, ◌<◌, ◌≡◌, List, get_or, take, ltb}
use Rattle.rules.specs.Pick.{pick}
use Rattle.trees.specs.Graph.{Graph}
use Rattle.walks.specs.Member.{Member}
use Rattle.walks.specs.Walk.{meet}
use Rattle.walker.specs.Queue.{Marked}

-- a row of the store is met, and a row of the sheet is not
unfoldable pub meet_stored : (stored : ℕ) → List ℕ → ℕ → List ℕ
meet_stored stored l x = pick (ltb x stored) (meet l x) l

-- the first n inputs of a row by value
unfoldable pub meet_these : (stored : ℕ) → (inputs l : List ℕ) → ℕ → List ℕ
meet_these stored inputs l zero = l
meet_these stored inputs l (suc n) = meet_stored stored (meet_these stored inputs l n) (get_or inputs n 0)

-- row k of those looked at
unfoldable pub row_at : (stored rows : ℕ) → List ℕ → ℕ → ℕ
row_at stored rows queue k = pick (ltb k rows) (stored + k) (get_or queue (k - rows) 0)

-- row x is an input of row u
pub record InputOf (g : Graph) (u x : ℕ) : Type 0 where
  pub input : ℕ
  pub of_row : input < g.count u
  pub is : g.input u input ≡ x

-- where a row of the queue comes from: it stood there, or it is an input of row u
pub data Since (g : Graph) (u : ℕ) (old : List ℕ) (x : ℕ) : Type 0 where
  since_stood : Member old x → Since g u old x
  since_met : InputOf g u x → Since g u old x

-- the inputs of row u are met: the entries filled before stand, every input that is a row of the store is there, and nothing else has come
pub record Visited (g : Graph) (stored u : ℕ) (old : List ℕ) (filled₀ : ℕ) (queue marks : List ℕ) (filled : ℕ) : Type 0 where
  pub marked : Marked stored queue marks filled
  pub more : filled₀ ≤ filled
  pub kept : (i : ℕ) → i < filled₀ → get_or queue i 0 ≡ get_or old i 0
  pub each : (j : ℕ) → j < g.count u → g.input u j < stored → Member (take filled queue) (g.input u j)
  pub from : (x : ℕ) → Member (take filled queue) x → Since g u (take filled₀ old) x
