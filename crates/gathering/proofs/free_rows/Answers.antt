-- The rows from k on are zero so far.
use Rattle.gathering.proofs.Gathering.{freeing_there, freeing_more}
use Rattle.gathering.proofs.free_rows.Goals as goal

pub put_row-requires : goal.put_row-requires
put_row-requires c = search freeing_there

pub loop-u-preserved : goal.loop-u-preserved
loop-u-preserved c = search freeing_more
