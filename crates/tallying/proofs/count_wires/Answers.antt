-- One for each wire that is not marked.
use Rattle.std.proofs.Common.{rules}
use Rattle.tallying.proofs.Counting.{rows_few, rows_looked, summed_tally}
use Rattle.tallying.proofs.count_wires.Goals as goal

pub sum_of-requires-clause-few : goal.sum_of-requires-clause-few
sum_of-requires-clause-few c = search rows_few

pub sum_of-requires-clause-callable : goal.sum_of-requires-clause-callable
sum_of-requires-clause-callable c = λ u h. search (rules, rows_looked)

pub returns : goal.returns
returns c = summed_tally _ _ _ _ c.sum_of.ensures (λ u x h p. search rules)
