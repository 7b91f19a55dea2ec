use Rattle.judging.proofs.Sifting.{MovingUp}
use Prim.Native.Nat.{◌≤◌}
use Rattle.judging.proofs.peeling.put_back.Given as goal

abbrev pub invariant-loop-i : goal.invariant-loop-i
invariant-loop-i l = MovingUp l.k l.initial.queue l.i l.queue × (l.i ≤ l.m)
