-- In 64 bits nothing is lost.
use borrow.Author.Rules.{rules}
use lib.IntN.{◌+ℤ◌}
use Rattle.counts.proofs.Magnitudes.{sum_fits}
use Rattle.counts.proofs.Reading.{both_asked, both_given}
use Rattle.counts.proofs.exact.sum_of_two.Goals as goal

pub plus-requires : goal.plus-requires
plus-requires c = search (both_asked ◌+ℤ◌ sum_fits)

pub returns : goal.returns
returns c = (search (both_given ◌+ℤ◌ sum_fits), search rules)
