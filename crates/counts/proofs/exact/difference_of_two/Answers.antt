-- In 64 bits nothing is lost.
use borrow.Author.Rules.{rules}
use lib.IntN.{◌-ℤ◌}
use Rattle.counts.proofs.Magnitudes.{difference_fits}
use Rattle.counts.proofs.Reading.{both_asked, both_given}
use Rattle.counts.proofs.exact.difference_of_two.Goals as goal

pub less-requires : goal.less-requires
less-requires c = search (both_asked ◌-ℤ◌ difference_fits)

pub returns : goal.returns
returns c = (search (both_given ◌-ℤ◌ difference_fits), search rules)
