-- The exact sum, clamped.
use borrow.Author.Rules.{rules}
use lib.IntN.{◌+ℤ◌}
use Rattle.counts.proofs.Magnitudes.{sum_fits}
use Rattle.counts.proofs.Clamping.{two_given}
use Rattle.counts.proofs.operations.sum.Goals as goal

pub returns : goal.returns
returns c = (search (two_given ◌+ℤ◌ sum_fits), search rules)
