-- Used, zero, or neither.
use Rattle.tallying.proofs.Counting.{word_used, word_zero, word_set_lem}
use Rattle.tallying.proofs.one_word.Goals as goal

pub returns-then-j-count_of : goal.returns-then-j-count_of
returns-then-j-count_of c = search word_used

pub returns-then-input_of-eq0 : goal.returns-then-input_of-eq0
returns-then-input_of-eq0 c = search word_zero

pub returns : goal.returns
returns c = search word_set_lem
