-- Inner: what the writing of a key asks: a store, and the queue of a finished walk over it with its marks.
use Rattle.std.specs.Prelude.{ℕ, ◌<◌, List, get_or, take}
use Rattle.trees.specs.Graph.{Graph}
use Rattle.store.specs.Layout.{count_of, input_of, store_graph}
use Rattle.walks.specs.Key.{keyed}
use Rattle.walks.specs.Member.{Member}
use Rattle.walker.specs.Queue.{Marked, Walkable}
use Rattle.keywriter.specs.declared.reads.Walked.{Walked}

-- each used input of a queued row is queued
pub record Held (most : ℕ) (w : List ℕ) (n : ℕ) (queue marks : List ℕ) (filled : ℕ) : Type 0 where
  pub walkable : Walkable most w n
  pub marks_stand : Marked n queue marks filled
  pub inputs : (i j : ℕ) → i < filled → j < count_of most w (get_or queue i 0) → Member (take filled queue) (input_of most w (get_or queue i 0) j)

-- the rows that are written: those queued, with each input as its place in the queue
abbrev pub held_key : (most : ℕ) → (w queue : List ℕ) → (filled : ℕ) → Graph
held_key most w queue filled = keyed (store_graph most w) (take filled queue)

-- and of a walk in memory: its rows, that their marks stand, what is asked of it, and what is written
abbrev pub rows_of : Walked → List ℕ
rows_of v = take v.filled v.queue.now

abbrev pub MarkedIn : Walked → Type 0
MarkedIn v = Marked v.n v.queue.now v.marks.now v.filled

abbrev pub HeldIn : Walked → Type 0
HeldIn v = Held v.most v.store.now v.n v.queue.now v.marks.now v.filled

abbrev pub key_in : Walked → Graph
key_in v = held_key v.most v.store.now v.queue.now v.filled
