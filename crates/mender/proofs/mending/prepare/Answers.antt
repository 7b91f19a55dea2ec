-- Marked, counted, cleaned.
use Rattle.mender.proofs.Preparing.{asks_mark, asks_tally, asks_clean}
use Rattle.mender.proofs.mending.prepare.Goals as goal

pub mark-requires : goal.mark-requires
mark-requires c = search asks_mark

pub count_all-counts-requires : goal.count_all-counts-requires
count_all-counts-requires c = search asks_tally

pub clean-requires : goal.clean-requires
clean-requires c = search asks_clean
