-- The store's rows as a graph: it is closed, and has no wires, so that skipping wires changes none of its trees.
use Prim.Native.Nat.{ℕ, ◌<◌}
use native.Mathlib.Omega.{arith}
use mathlib.Core.Path.{◌≡◌}
use mathlib.Core.List.{List}
use Rattle.trees.specs.Graph.{Closed}
use Rattle.trees.specs.Agreement.{SameTree}
use Rattle.wires.specs.Wires.{skipping, Plain}
use Rattle.wires.proofs.Skipping.{plain_same}
use Rattle.store.specs.Layout.{in_use, store_graph}
use Rattle.store.specs.Sound.{Shaped}

module _ (most : ℕ) (w : List ℕ) (s : Shaped most w) where
  pub shaped_closed : Closed (store_graph most w) (in_use w)
  unfolding store_graph
  shaped_closed = record { within = λ u j l c. (s.rows u l).used j c }

  pub shaped_plain : Plain (store_graph most w) (in_use w)
  unfolding store_graph
  shaped_plain = record { plain = λ u l x. let z : ◌≡◌ {A = ℕ} 0 1 = cc (x.is, (s.rows u l).plain) in omega arith }

  pub shaped_read : (u : ℕ) → u < in_use w → SameTree (skipping (store_graph most w)) u (store_graph most w) u
  shaped_read = plain_same (store_graph most w) shaped_closed shaped_plain
