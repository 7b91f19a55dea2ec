-- The rows that a row of a store leads to, in an order in which each that is no hold stands before its inputs.
use Rattle.std.specs.Prelude.{ℕ, ◌≤◌, ◌<◌, ◌≡◌, List, length, get_or, Result, Ok, Err}
use Rattle.rules.specs.Lists.{widest}
use Rattle.trees.specs.Graph.{Graph}
use Rattle.trees.specs.Paths.{Leads}
use Rattle.loops.specs.Catalogue.{Unlisted}
use Rattle.loops.specs.Loops.{Unheld}
use Rattle.loops.specs.Orders.{StandsIn, Ordered}
use Rattle.store.specs.Layout.{in_use}
use Rattle.store.specs.Sound.{Shaped}
use Rattle.judging.specs.declared.misfit.Misfit.{Misfit}
use Rattle.judging.specs.declared.misfit.Misfit.TheVariants.{NotListed, NotHeld}

-- inner: a shaped store, a row in use, and an entry of both arrays for each row in use
pub record Orderable (most : ℕ) (w : List ℕ) (n row : ℕ) (state queue : List ℕ) : Type 0 where
  pub limit : most ≤ widest
  pub shaped : Shaped most w
  pub counted : n ≡ in_use w
  pub used : row < n
  pub states : n ≤ length state
  pub places : n ≤ length queue

-- so many first entries of the queue are the rows that the row leads to, itself too, in order
pub record InOrderFrom (g : Graph) (n row : ℕ) (queue : List ℕ) (filled : ℕ) : Type 0 where
  pub ordered : Ordered g queue filled
  pub few : filled ≤ n
  pub low : n ≤ 1024
  pub within : (k : ℕ) → k < filled → get_or queue k 0 < n
  pub led : (k : ℕ) → k < filled → Leads g row (get_or queue k 0)
  pub all : (u : ℕ) → Leads g row u → StandsIn queue 0 filled u

-- a row reached is not listed; or all are, and one is on a loop without a hold; or all is fine
pub data OrderSays (g : Graph) (n row : ℕ) (queue : List ℕ) : Result ℕ Misfit → Type 0 where
  order_unlisted : Unlisted g row → OrderSays g n row queue (Err NotListed)
  order_unheld : (Unlisted g row → ⊥) → Unheld g row → OrderSays g n row queue (Err NotHeld)
  order_fine : {filled : ℕ} → (Unlisted g row → ⊥) → (Unheld g row → ⊥) → InOrderFrom g n row queue filled → OrderSays g n row queue (Ok filled)
