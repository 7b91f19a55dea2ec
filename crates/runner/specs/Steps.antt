-- Inner: what the steps of a run ask.
use Rattle.std.specs.Prelude.{ℕ, ◌%◌, ◌≤◌, ◌<◌, ◌≡◌, List, length, ℤ}
use Rattle.loops.specs.Catalogue.{Unlisted}
use Rattle.loops.specs.Loops.{Unheld}
use Rattle.store.specs.Layout.{store_graph, room}
use Rattle.checking.specs.Checked.{SoundStore}
use Rattle.ordering.specs.Order.{InOrderFrom}
use Rattle.running.specs.Run.{ticks}
use Rattle.ticking.specs.declared.order.Chain.{Chain}

-- the channel count is from 1 to 8, and so many values are whole ticks
pub record WholeTicks (channels count : ℕ) : Type 0 where
  pub some : 0 < channels
  pub few : channels ≤ 8
  pub whole : count % channels ≡ 0

-- a sound store, a row in use, all that it leads to listed and held, and these rows in order
pub record Chained (w : List ℕ) (n row : ℕ) (queue : List ℕ) (filled : ℕ) : Type 0 where
  pub store : SoundStore w n
  pub used : row < n
  pub listed : Unlisted (store_graph room w) row → ⊥
  pub held : Unheld (store_graph room w) row → ⊥
  pub order : InOrderFrom (store_graph room w) n row queue filled
  pub long : n ≤ length queue

-- such a chain in memory, with room for as many inputs as every row of a store has
abbrev pub ChainedIn : Chain → ℕ → Type 0
ChainedIn c row = (c.most ≡ room) × Chained c.store.now c.n row c.queue.now c.filled

-- and a trace with an output for each tick
pub record Traced (w : List ℕ) (n row channels : ℕ) (values : List ℤ) (queue : List ℕ) (filled : ℕ) (output : List ℤ) : Type 0 where
  pub chain : Chained w n row queue filled
  pub some : 0 < channels
  pub room_there : ticks values channels ≤ length output

abbrev pub TracedIn : Chain → (row channels : ℕ) → (values output : List ℤ) → Type 0
TracedIn c row channels values output = (c.most ≡ room) × Traced c.store.now c.n row channels values c.queue.now c.filled output
