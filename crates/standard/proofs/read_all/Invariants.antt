-- The bytes that came so far are a part of those lent. The measure is the room left.
use Rattle.std.proofs.Common.{◌-◌, ◌≤◌, length}
use Rattle.standard.proofs.read_all.Given as goal

abbrev pub invariant-loop-n : goal.invariant-loop-n
invariant-loop-n l = l.n ≤ length l.bytes

abbrev pub decreases-loop-n : goal.decreases-loop-n
decreases-loop-n l = length l.bytes - l.n
