use Prim.Native.Nat.{◌-◌}
use lib.ListN.{replicate}
use Rattle.rules.specs.Lists.{widest}
use Rattle.rules.proofs.Lists.{Filled}
use Rattle.rows.specs.Joined.{resolved_or}
use Rattle.rows.proofs.sheet_inputs.Given as goal

abbrev pub invariant-loop-j : goal.invariant-loop-j
invariant-loop-j l = Filled (replicate widest 0) (resolved_or l.bytes l.stored l.at l.count) widest l.found l.j

-- A `for` needs no measure. It is for the must-fail edit that goes on by two, as a `while`.
abbrev pub decreases-loop-j : goal.decreases-loop-j
decreases-loop-j l = widest - l.j
