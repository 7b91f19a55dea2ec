use lib.ListN.{take}
use Rattle.rules.specs.Writes.{Wrote}
use Rattle.text.specs.Decimal.{spaced}
use Rattle.text.proofs.put_numbers.Given as goal

abbrev pub invariant-loop-n : goal.invariant-loop-n
invariant-loop-n l = Wrote l.initial.out l.at (spaced (take l.n-index l.numbers)) l.out l.to
