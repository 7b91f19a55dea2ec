use Rattle.asks.proofs.Moving.{Moving}
use Rattle.asks.proofs.window.move_down.Given as goal

abbrev pub invariant-loop-i : goal.invariant-loop-i
invariant-loop-i l = Moving l.initial.bytes l.at l.left l.bytes l.i
