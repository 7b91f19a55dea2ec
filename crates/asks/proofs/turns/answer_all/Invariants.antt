use Prim.Native.Nat.{◌-◌}
use lib.ListN.{length}
use Rattle.asks.proofs.Turning.{Going}
use Rattle.asks.proofs.turns.answer_all.Given as goal

abbrev pub invariant-loop-last : goal.invariant-loop-last
invariant-loop-last l = Going l.bytes l.at

abbrev pub decreases-loop-last : goal.decreases-loop-last
decreases-loop-last l = length l.bytes - l.at
