use Rattle.signatures.proofs.Values.{Packing}
use Rattle.signatures.proofs.signature.classes_of.Given as goal

abbrev pub invariant-loop-j : goal.invariant-loop-j
invariant-loop-j l = Packing l.cls l.inputs l.j l.found
