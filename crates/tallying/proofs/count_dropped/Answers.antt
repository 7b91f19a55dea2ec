-- One for each row that is marked.
use Rattle.std.proofs.Common.{rules}
use Rattle.tallying.proofs.Counting.{rows_few, summed_tally}
use Rattle.tallying.proofs.count_dropped.Goals as goal

pub sum_of-requires-clause-few : goal.sum_of-requires-clause-few
sum_of-requires-clause-few c = search rows_few

pub returns : goal.returns
returns c = summed_tally _ _ _ _ c.sum_of.ensures (λ u x h p. search rules)
