-- The words of each row that is not marked.
use Rattle.std.proofs.Common.{rules}
use Rattle.tallying.proofs.Counting.{rows_few, rows_looked, words_most}
use Rattle.tallying.proofs.count_words.Goals as goal

pub sum_of-requires-clause-few : goal.sum_of-requires-clause-few
sum_of-requires-clause-few c = search rows_few

pub sum_of-requires-clause-callable : goal.sum_of-requires-clause-callable
sum_of-requires-clause-callable c = λ u h. search (rules, rows_looked)

pub sum_of-requires-clause-low : goal.sum_of-requires-clause-low
sum_of-requires-clause-low c = λ u x h p. words_most _ _ _ _ c.requires u x (search rules)
