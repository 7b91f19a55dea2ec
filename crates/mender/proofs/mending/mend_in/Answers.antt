-- No words, a short list, or done.
use Rattle.mender.proofs.Outcomes.{mend_none, mend_words, mend_capacity, mend_short, mend_asks}
use Rattle.mender.proofs.mending.mend_in.Goals as goal

pub returns-in_default : goal.returns-in_default
returns-in_default c = rw c.refused.ensures (search mend_none)

pub rows_taken-n-requires : goal.rows_taken-n-requires
rows_taken-n-requires c = (search mend_words, search mend_capacity)

pub returns-then-list-n : goal.returns-then-list-n
returns-then-list-n c = rw c.refused-then-list-n.ensures (search mend_short)

pub mend_rows-requires : goal.mend_rows-requires
mend_rows-requires c = search mend_asks
