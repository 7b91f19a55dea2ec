use lib.ListN.{replicate}
use Rattle.rules.specs.Lists.{widest}
use Rattle.rules.proofs.Lists.{Filled}
use Rattle.store.specs.Layout.{input_of}
use Rattle.store.proofs.row.inputs_of.Given as goal

abbrev pub invariant-loop-j : goal.invariant-loop-j
invariant-loop-j l = Filled (replicate widest 0) (input_of l.most l.store l.n) l.most l.found l.j
