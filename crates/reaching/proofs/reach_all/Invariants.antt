use Prim.Native.Nat.{◌+◌, ◌-◌}
use mathlib.Core.Path.{◌≡◌}
use lib.ListN.{length}
use Rattle.rows.specs.Joined.{source_of, drawn}
use Rattle.reaching.proofs.Reaching.{ReachedSoFar}
use Rattle.reaching.proofs.reach_all.Given as goal

abbrev pub invariant-loop-k : goal.invariant-loop-k
invariant-loop-k l = ReachedSoFar (drawn (source_of l.view)) l.view.stored (length l.view.table.now) l.queue l.marks l.filled l.k × (length l.queue ≡ length l.initial.queue) × (length l.marks ≡ length l.initial.marks)

abbrev pub decreases-loop-k : goal.decreases-loop-k
decreases-loop-k l = (length l.view.table.now + l.view.stored) - l.k
