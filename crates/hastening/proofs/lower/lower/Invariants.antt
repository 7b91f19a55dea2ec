use mathlib.Core.Path.{◌≡◌}
use lib.ListN.{length}
use Rattle.hastening.proofs.Lowest.{LoweredTo}
use Rattle.hastening.proofs.lower.lower.Given as goal

abbrev pub invariant-loop-u : goal.invariant-loop-u
invariant-loop-u l = LoweredTo l.n l.initial.cls l.marks l.cls l.links l.u × (length l.links ≡ length l.initial.links)
