-- Inner: the rows of a chain in memory, in the order in which they are looked at from the back, and a value for each row.
use Rattle.std.specs.Prelude.{ℕ, ◌+◌, ◌%◌, ◌≤◌, ◌<◌, ◌≡◌, List, length, get_or, eqb, ℤ, pos}
use Rattle.std.specs.Int.{w32}
use Rattle.std.proofs.Common.{SFits}
use Rattle.rules.specs.Pick.{pick}
use Rattle.trees.specs.Graph.{Graph}
use Rattle.loops.specs.Operations.{operation_of, setting_of}
use Rattle.loops.specs.Orders.{Ordered}
use Rattle.store.specs.Layout.{store_graph}
use Rattle.walker.specs.Queue.{Walkable}
use Rattle.running.specs.Results.{result_of}
use Rattle.running.specs.Values.{of_inputs, tick_value, most_deep}
use Rattle.ticking.specs.declared.order.Chain.{Chain}

-- a shaped store with n rows in use, and so many rows of it in the queue, in an order
pub record Lined (most : ℕ) (w : List ℕ) (n : ℕ) (queue : List ℕ) (filled : ℕ) : Type 0 where
  pub shaped : Walkable most w n
  pub long : filled ≤ length queue
  pub few : filled ≤ most_deep
  pub within : (k : ℕ) → k < filled → get_or queue k 0 < n
  pub ordered : Ordered (store_graph most w) queue filled

-- the rows that a chain in memory is taken from
abbrev pub graph_of : Chain → Graph
graph_of c = store_graph c.most c.store.now

-- its store is shaped, with its rows in use
abbrev pub WalkableIn : Chain → Type 0
WalkableIn c = Walkable c.most c.store.now c.n

-- and its rows are in an order
abbrev pub LinedIn : Chain → Type 0
LinedIn c = Lined c.most c.store.now c.n c.queue.now c.filled

-- a value of a row
abbrev pub value_in : List ℤ → ℕ → ℤ
value_in values u = get_or values u (pos 0)

-- r is x, and a number of 32 bits
pub record Number (x r : ℤ) : Type 0 where
  pub is : r ≡ x
  pub fits : SFits w32 r

-- what a hold gives: its input's value before
abbrev pub held_in : Graph → List ℤ → ℕ → ℤ
held_in g before u = of_inputs g (value_in before) u 0

-- the values of a row's inputs
pub record Gathered (g : Graph) (values : List ℤ) (u : ℕ) (x : List ℤ) : Type 0 where
  pub each : (j : ℕ) → get_or x j (pos 0) ≡ of_inputs g (value_in values) u j

-- the result of row u's operation on the values there, its hold's on those before
unfoldable pub row_now : Graph → (channels before values : List ℤ) → ℕ → ℤ
row_now g channels before values u =
    result_of (operation_of (g.label u)) (setting_of (g.label u)) channels (held_in g before u) (of_inputs g (value_in values) u)

-- there is a value for each of n rows, at the tick for those from a place of the queue on
pub record Ticked (g : Graph) (n : ℕ) (queue : List ℕ) (filled : ℕ) (channels before values : List ℤ) (from : ℕ) : Type 0 where
  pub long : n ≤ length values
  pub each : (k : ℕ) → from ≤ k → k < filled
      → value_in values (get_or queue k 0) ≡ tick_value g channels (held_in g before) most_deep (get_or queue k 0)

-- no row of n has a value yet
pub record Blank (n : ℕ) (values : List ℤ) : Type 0 where
  pub blank : (u : ℕ) → u < n → value_in values u ≡ pos 0

-- two arrays take turns: the one with the values of the tick before tick t
unfoldable pub latest : (t : ℕ) → (first second : List ℤ) → List ℤ
latest t first second = pick (eqb (t % 2) 0) second first

-- tick t, with the values before it in one of the arrays and those of it in the other; r is the value of a row
pub record Turned (g : Graph) (n : ℕ) (queue : List ℕ) (filled : ℕ) (channels : List ℤ) (t row : ℕ) (first second first' second' : List ℤ) (r : ℤ) : Type 0 where
  pub ticked : Ticked g n queue filled channels (latest t first second) (latest (t + 1) first' second') 0
  pub first_long : n ≤ length first'
  pub second_long : n ≤ length second'
  pub number : Number (value_in (latest (t + 1) first' second') row) r
