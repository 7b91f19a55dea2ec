use Rattle.judging.proofs.Visiting.{QueueSoFar}
use Rattle.rows.specs.Joined.{source_of}
use Prim.Native.Nat.{◌-◌}
use mathlib.Core.Path.{◌≡◌}
use lib.ListN.{length}
use Rattle.judging.proofs.meeting.meet_queue.Given as goal

abbrev pub invariant-loop-k : goal.invariant-loop-k
invariant-loop-k l = QueueSoFar (source_of l.view) l.view.table.now l.initial.state l.k l.state l.queue l.met × (length l.queue ≡ length l.initial.queue)

abbrev pub decreases-loop-k : goal.decreases-loop-k
decreases-loop-k l = l.view.stored - l.k
