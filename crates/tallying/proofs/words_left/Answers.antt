-- Marked, or the words of the row.
use Rattle.tallying.proofs.Counting.{words_gone, words_of}
use Rattle.tallying.proofs.words_left.Goals as goal

pub returns-then-entry_of : goal.returns-then-entry_of
returns-then-entry_of c = search words_gone

pub returns : goal.returns
returns c = search words_of
