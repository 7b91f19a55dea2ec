use Prim.Native.Nat.{◌-◌}
use Rattle.std.proofs.Common.{replicate}
use Rattle.rules.specs.Lists.{widest}
use Rattle.rules.proofs.Lists.{Filled}
use Rattle.gathering.specs.Gathered.{listed_input}
use Rattle.gathering.proofs.listed_inputs.Given as goal

abbrev pub invariant-loop-j : goal.invariant-loop-j
invariant-loop-j l = Filled (replicate widest 0) (listed_input l.list l.inputs) l.count l.found l.j

-- A `for` needs no measure. It is for the must-fail edit that goes on by two, as a `while`.
abbrev pub decreases-loop-j : goal.decreases-loop-j
decreases-loop-j l = l.count - l.j
