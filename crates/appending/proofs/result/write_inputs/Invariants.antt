use Rattle.rules.specs.Writes.{Wrote}
use Rattle.keys.specs.Bytes.{inputs_bytes}
use Rattle.appending.specs.Placed.{placed_inputs}
use Rattle.appending.proofs.result.write_inputs.Given as goal

abbrev pub invariant-loop-j : goal.invariant-loop-j
invariant-loop-j l = Wrote l.initial.out l.at (inputs_bytes (placed_inputs l.stored l.places l.inputs) 0 l.j) l.out l.to
