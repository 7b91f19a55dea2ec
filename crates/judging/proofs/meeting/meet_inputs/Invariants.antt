use Rattle.judging.specs.Queues.{TheseMet}
use lib.ListN.{length}
use mathlib.Core.Path.{◌≡◌}
use Rattle.judging.proofs.meeting.meet_inputs.Given as goal

abbrev pub invariant-loop-j : goal.invariant-loop-j
invariant-loop-j l = TheseMet l.stored l.inputs l.count l.initial.state l.initial.queue l.filled l.j l.state l.queue l.met × (length l.queue ≡ length l.initial.queue)
