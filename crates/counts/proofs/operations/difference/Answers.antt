-- The exact difference, clamped.
use borrow.Author.Rules.{rules}
use lib.IntN.{◌-ℤ◌}
use Rattle.counts.proofs.Magnitudes.{difference_fits}
use Rattle.counts.proofs.Clamping.{two_given}
use Rattle.counts.proofs.operations.difference.Goals as goal

pub returns : goal.returns
returns c = (search (two_given ◌-ℤ◌ difference_fits), search rules)
