use Rattle.judging.proofs.Sifting.{QueueTurning}
use Rattle.rows.specs.Joined.{source_of, drawn}
use mathlib.Core.Path.{◌≡◌}
use lib.ListN.{length}
use Rattle.judging.proofs.peeling.peel_queue.Given as goal

abbrev pub invariant-loop-waiting : goal.invariant-loop-waiting
invariant-loop-waiting l = QueueTurning (drawn (source_of l.view)) l.view.stored l.filled l.initial.state l.state l.queue l.waiting × (length l.queue ≡ length l.initial.queue)

abbrev pub decreases-loop-waiting : goal.decreases-loop-waiting
decreases-loop-waiting l = l.waiting
