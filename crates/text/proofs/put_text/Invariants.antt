use lib.ListN.{take}
use Rattle.rules.specs.Writes.{Wrote}
use Rattle.text.proofs.put_text.Given as goal

abbrev pub invariant-loop-b : goal.invariant-loop-b
invariant-loop-b l = Wrote l.initial.out l.at (take l.b-index l.text) l.out l.to
