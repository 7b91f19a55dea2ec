use Prim.Native.Nat.{◌≤◌}
use mathlib.Core.Path.{◌≡◌}
use lib.ListN.{length, take}
use Rattle.walker.specs.Queue.{Queued}
use Rattle.reaching.specs.Meeting.{meet_these}
use Rattle.reaching.proofs.meet_inputs.Given as goal

abbrev pub invariant-loop-j : goal.invariant-loop-j
invariant-loop-j l = Queued l.stored l.queue l.marks l.met (meet_these l.stored l.inputs (take l.filled l.initial.queue) l.j) × (l.j ≤ l.count) × (length l.queue ≡ length l.initial.queue) × (length l.marks ≡ length l.initial.marks)
