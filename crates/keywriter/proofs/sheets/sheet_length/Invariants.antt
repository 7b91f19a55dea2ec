use Prim.Native.Nat.{◌≤◌}
use Rattle.keywriter.specs.Asked.{key_in}
use Rattle.keywriter.proofs.Whole.{Measured}
use Rattle.keywriter.proofs.sheets.sheet_length.Given as goal

abbrev pub invariant-loop-i : goal.invariant-loop-i
invariant-loop-i l = Measured (key_in l.walked) l.total l.i × (l.i ≤ l.walked.filled)
