use mathlib.Core.Path.{◌≡◌}
use lib.ListN.{length}
use Rattle.choosing.proofs.mark.count_rows.Given as goal

abbrev pub invariant-loop-u : goal.invariant-loop-u
invariant-loop-u l = length l.links ≡ length l.initial.links
