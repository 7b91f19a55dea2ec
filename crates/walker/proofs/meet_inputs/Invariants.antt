use mathlib.Core.Path.{◌≡◌}
use lib.ListN.{length, take}
use Rattle.store.specs.Layout.{store_graph}
use Rattle.walks.specs.Walk.{meet_inputs}
use Rattle.walker.specs.Queue.{Queued}
use Rattle.walker.proofs.meet_inputs.Given as goal

abbrev pub invariant-loop-j : goal.invariant-loop-j
invariant-loop-j l = Queued l.n l.queue l.marks l.met (meet_inputs (store_graph l.most l.store) l.row (take l.filled l.initial.queue) l.j) × (length l.queue ≡ length l.initial.queue) × (length l.marks ≡ length l.initial.marks)
