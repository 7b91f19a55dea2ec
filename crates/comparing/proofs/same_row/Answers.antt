-- Label and input count first.
use Rattle.comparing.proofs.Rowwise.{row_label, row_count, row_places}
use Rattle.comparing.proofs.same_row.Goals as goal

pub returns-then-label_of : goal.returns-then-label_of
returns-then-label_of c = search row_label

pub returns-then-count-count_of : goal.returns-then-count-count_of
returns-then-count-count_of c = search row_count

pub returns : goal.returns
returns c = search row_places
