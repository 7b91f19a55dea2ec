-- Inner: the walk in memory: a queue of the rows met, and for each row a mark that says where it stands in the queue. Marks of rows that have
-- not been met may hold anything, so nothing is cleared.
use Rattle.std.specs.Prelude.{ℕ, ◌≤◌, ◌<◌, ◌≡◌, List, length, get_or, take}
use Rattle.rules.specs.Lists.{widest}
use Rattle.store.specs.Layout.{in_use}
use Rattle.store.specs.Sound.{Shaped}

-- the first `filled` entries of the queue are rows below n, and each row's mark is its place
pub record Marked (n : ℕ) (queue marks : List ℕ) (filled : ℕ) : Type 0 where
  pub queue_long : n ≤ length queue
  pub marks_long : n ≤ length marks
  pub few : filled ≤ n
  pub low : n ≤ 1024
  pub marked : (i : ℕ) → i < filled → get_or marks (get_or queue i 0) 0 ≡ i
  pub within : (i : ℕ) → i < filled → get_or queue i 0 < n

-- and these rows are l
pub record Queued (n : ℕ) (queue marks : List ℕ) (filled : ℕ) (l : List ℕ) : Type 0 where
  pub marks_stand : Marked n queue marks filled
  pub rows : take filled queue ≡ l

-- a shaped store with n rows in use
pub record Walkable (most : ℕ) (w : List ℕ) (n : ℕ) : Type 0 where
  pub limit : most ≤ widest
  pub shaped : Shaped most w
  pub counted : n ≡ in_use w
