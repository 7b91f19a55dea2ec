use Prim.Native.Nat.{◌≤◌}
use Rattle.keys.specs.Bytes.{inputs_bytes}
use Rattle.keywriter.specs.Asked.{key_in}
use Rattle.rules.specs.Writes.{Wrote}
use Rattle.keywriter.proofs.sheets.write_inputs.Given as goal

abbrev pub invariant-loop-j : goal.invariant-loop-j
invariant-loop-j l = Wrote l.initial.key l.at (inputs_bytes (key_in l.walked) l.k l.j) l.key l.to × (l.j ≤ l.count)
