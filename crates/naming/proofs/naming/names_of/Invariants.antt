use Rattle.naming.proofs.Entries.{NamesPacked}
use Rattle.naming.proofs.naming.names_of.Given as goal

abbrev pub invariant-loop-j : goal.invariant-loop-j
invariant-loop-j l = NamesPacked l.cls l.inputs l.count l.j l.found
