-- The entry is that of a dropped row, or not.
use Rattle.tallying.proofs.Counting.{one_yes, one_no}
use Rattle.tallying.proofs.one_marked.Goals as goal

pub returns-then-entry_of : goal.returns-then-entry_of
returns-then-entry_of c = search one_yes

pub returns : goal.returns
returns c = search one_no
