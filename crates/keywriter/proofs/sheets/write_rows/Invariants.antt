use Prim.Native.Nat.{◌-◌, ◌≤◌}
use Rattle.keys.specs.Bytes.{rows_bytes}
use Rattle.keywriter.specs.Asked.{key_in}
use Rattle.rules.specs.Writes.{Wrote}
use Rattle.keywriter.proofs.sheets.write_rows.Given as goal

abbrev pub invariant-loop-k : goal.invariant-loop-k
invariant-loop-k l = Wrote l.initial.key l.at (rows_bytes (key_in l.walked) l.k) l.key l.to × (l.k ≤ l.walked.filled)

-- A `for` needs no measure. It is for the must-fail edit that goes on by two, as a `while`.
abbrev pub decreases-loop-k : goal.decreases-loop-k
decreases-loop-k l = l.walked.filled - l.k
