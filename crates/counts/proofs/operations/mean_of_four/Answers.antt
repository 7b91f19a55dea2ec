-- The sum has 34 bits, and its quarter 32.
use borrow.Author.Rules.{rules}
use Rattle.counts.proofs.Means.{four_asked, mean_asked, mean_given}
use Rattle.counts.proofs.operations.mean_of_four.Goals as goal

pub plus-requires : goal.plus-requires
plus-requires c = search four_asked

pub narrow-requires : goal.narrow-requires
narrow-requires c = search mean_asked

pub returns : goal.returns
returns c = (search mean_given, search rules)
