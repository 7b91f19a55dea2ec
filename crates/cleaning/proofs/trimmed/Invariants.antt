use Rattle.std.proofs.Common.{replicate}
use Rattle.rules.specs.Lists.{widest}
use Rattle.rules.proofs.Lists.{Filled}
use Rattle.cleaning.specs.Cleaned.{input_at}
use Rattle.cleaning.proofs.trimmed.Given as goal

abbrev pub invariant-loop-j : goal.invariant-loop-j
invariant-loop-j l = Filled (replicate widest 0) (input_at l.inputs) l.count l.found l.j
