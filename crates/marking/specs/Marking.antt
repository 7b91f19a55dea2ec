-- Inner: rows marked that are dropped. First for what rows are by themselves, then for loops of wires.
use Rattle.std.specs.Prelude.{ℕ, ◌≤◌, ◌<◌, ◌≡◌, List, length}
use Rattle.rules.specs.Lists.{widest}
use Rattle.wires.specs.Wires.{through}
use Rattle.store.specs.Layout.{capacity_of, store_graph}
use Rattle.mends.specs.Dropped.{Dropped}
use Rattle.mends.specs.Entries.{entry_of, Marked}
use Rattle.spoiling.specs.Own.{OwnFault}
use Rattle.dropping.specs.Dropping.{Still}

-- the first n rows are there, with an entry each
pub record MarkAsks (most n : ℕ) (w list : List ℕ) : Type 0 where
  pub some : 0 < most
  pub limit : most ≤ widest
  pub room : n ≤ capacity_of most (length w)
  pub entries : n ≤ length list

-- each row that is marked is dropped; of the others none is spoiled by itself, and none has a marked input
pub record HalfMarked (most n : ℕ) (w list : List ℕ) : Type 0 where
  pub dropped : (u : ℕ) → u < n → Marked list u → Dropped most w n u
  pub fine : (u : ℕ) → u < n → (Marked list u → ⊥) → OwnFault most w n u → ⊥
  pub still : Still most n w list

-- entries past the first n stand
pub record PastStands (n : ℕ) (old new : List ℕ) : Type 0 where
  pub long : length new ≡ length old
  pub past : (u : ℕ) → n ≤ u → entry_of new u ≡ entry_of old u

-- the first n rows are marked exactly if they are dropped; the entry of any other is the box that its wires lead to
pub record RowsMarked (most n : ℕ) (w old new : List ℕ) : Type 0 where
  pub stands : PastStands n old new
  pub dropped : (u : ℕ) → u < n → Marked new u → Dropped most w n u
  pub left : (u : ℕ) → u < n → (Marked new u → ⊥) → Dropped most w n u → ⊥
  pub ends : (u : ℕ) → u < n → (Marked new u → ⊥) → entry_of new u ≡ through (store_graph most w) u
