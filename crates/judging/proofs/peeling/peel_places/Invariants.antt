use Rattle.judging.specs.Sifts.{PassSays}
use Rattle.rows.specs.Joined.{source_of, drawn}
use mathlib.Core.Path.{◌≡◌}
use lib.ListN.{length}
use Rattle.judging.proofs.peeling.peel_places.Given as goal

abbrev pub invariant-loop-k : goal.invariant-loop-k
invariant-loop-k l = PassSays (drawn (source_of l.view)) l.view.stored l.filled l.initial.state l.initial.queue l.waiting l.k l.state l.queue l.left × (length l.queue ≡ length l.initial.queue)
