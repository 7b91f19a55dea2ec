use mathlib.Core.Path.{◌≡◌}
use lib.ListN.{length}
use Rattle.keyruns.proofs.draw.Given as goal

-- The measure is the turns left.

abbrev pub invariant-loop-k : goal.invariant-loop-k
invariant-loop-k l = length l.sheet ≡ length l.initial.sheet
