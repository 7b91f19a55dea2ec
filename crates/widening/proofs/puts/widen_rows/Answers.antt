-- Row after row.
use Rattle.widening.proofs.Filling.{put_none, row_old, row_new, put_more, put_through}
use Rattle.widening.proofs.puts.widen_rows.Goals as goal

pub loop-n-init : goal.loop-n-init
loop-n-init c = search put_none

pub widen_row-requires : goal.widen_row-requires
widen_row-requires c = (search row_old, search row_new)

pub loop-n-preserved : goal.loop-n-preserved
loop-n-preserved c = search put_more

pub returns : goal.returns
returns c = search put_through
