use Prim.Native.Nat.{◌-◌}
use lib.ListN.{replicate}
use Rattle.rules.specs.Lists.{widest}
use Rattle.rules.proofs.Lists.{Filled}
use Rattle.rounds.specs.Classes.{class_of}
use Rattle.writing.specs.Added.{numbered_input}
use Rattle.writing.proofs.row.numbered.Given as goal

abbrev pub invariant-loop-j : goal.invariant-loop-j
invariant-loop-j l = Filled (replicate widest 0) (numbered_input (class_of l.cls) l.inputs) l.count l.found l.j

-- A `for` needs no measure. It is for the must-fail edit that goes on by two, as a `while`.
abbrev pub decreases-loop-j : goal.decreases-loop-j
decreases-loop-j l = l.count - l.j
