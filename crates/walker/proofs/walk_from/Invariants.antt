use Prim.Native.Nat.{◌-◌}
use mathlib.Core.Path.{◌≡◌}
use mathlib.Core.List.{[], ◌∷◌}
use lib.ListN.{length}
use Rattle.store.specs.Layout.{store_graph}
use Rattle.walks.specs.Walk.{walk}
use Rattle.walker.specs.Queue.{Queued}
use Rattle.walker.proofs.walk_from.Given as goal

abbrev pub invariant-loop-k : goal.invariant-loop-k
invariant-loop-k l = Queued l.n l.queue l.marks l.filled (walk (store_graph l.most l.store) (l.row ∷ []) l.k) × (length l.queue ≡ length l.initial.queue) × (length l.marks ≡ length l.initial.marks)

abbrev pub decreases-loop-k : goal.decreases-loop-k
decreases-loop-k l = l.n - l.k
