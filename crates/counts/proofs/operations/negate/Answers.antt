-- Zero less a number is its negation.
use borrow.Author.Rules.{rules}
use Rattle.counts.proofs.Clamping.{negate_given}
use Rattle.counts.proofs.operations.negate.Goals as goal

pub returns : goal.returns
returns c = (search negate_given, search rules)
