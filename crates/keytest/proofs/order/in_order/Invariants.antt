use Prim.Native.Nat.{◌≤◌}
use Rattle.rows.specs.Joined.{source_of, joined}
use Rattle.keytest.proofs.Scanning.{Walked}
use Rattle.keytest.proofs.order.in_order.Given as goal

abbrev pub invariant-loop-k : goal.invariant-loop-k
invariant-loop-k l = Walked (joined (source_of l.view)) l.k l.seen × (l.k ≤ l.rows)
