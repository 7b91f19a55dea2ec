-- The rows, then their count.
use borrow.Author.Rules.{rules}
use Rattle.widening.proofs.Filling.{fitting_there, count_words_lem, count_few, all_put}
use Rattle.widening.proofs.puts.put_all.Goals as goal

pub widen_rows-requires : goal.widen_rows-requires
widen_rows-requires c = search fitting_there

pub write_count-requires : goal.write_count-requires
write_count-requires c = (search count_words_lem, search (count_few, rules))

pub returns : goal.returns
returns c = search all_put
