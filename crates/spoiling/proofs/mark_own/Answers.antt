-- The rows so far are marked or not.
use Rattle.spoiling.proofs.Faults.{own_there, own_entry, own_more}
use Rattle.spoiling.proofs.mark_own.Goals as goal

pub mark_row-requires : goal.mark_row-requires
mark_row-requires c = (search own_there, search own_entry)

pub loop-u-preserved : goal.loop-u-preserved
loop-u-preserved c = search own_more
