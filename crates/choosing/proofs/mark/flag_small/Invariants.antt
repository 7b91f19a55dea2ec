use mathlib.Core.Path.{◌≡◌}
use lib.ListN.{length}
use Rattle.choosing.proofs.mark.flag_small.Given as goal

-- The links keep their length.

abbrev pub invariant-loop-u : goal.invariant-loop-u
invariant-loop-u l = length l.links ≡ length l.initial.links
