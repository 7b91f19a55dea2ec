use Prim.Native.Nat.{◌-◌}
use Rattle.rounds.specs.Classes.{class_of}
use Rattle.rules.proofs.Lists.{Filled}
use Rattle.writing.specs.After.{answer_of}
use Rattle.writing.proofs.answers.put_answers.Given as goal

abbrev pub invariant-loop-i : goal.invariant-loop-i
invariant-loop-i l = Filled l.initial.answers (answer_of (class_of l.cls) l.stored) l.rows l.answers l.i

-- A `for` needs no measure. It is for the must-fail edit that goes on by two, as a `while`.
abbrev pub decreases-loop-i : goal.decreases-loop-i
decreases-loop-i l = l.rows - l.i
