-- One for each such word.
use Rattle.std.proofs.Common.{rules}
use Rattle.tallying.proofs.Counting.{summed_tally}
use Rattle.tallying.proofs.words_of.Goals as goal

pub returns : goal.returns
returns c = summed_tally _ _ _ _ c.sum_of.ensures (λ u x h p. search rules)
