-- The rows looked at stand at their numbers.
use Rattle.gathering.proofs.Gathering.{gathering_none, gathering_asks, gathering_more}
use Rattle.gathering.proofs.gather_rows.Goals as goal

pub loop-u-init : goal.loop-u-init
loop-u-init c = search gathering_none

pub move_one-k-requires : goal.move_one-k-requires
move_one-k-requires c = search gathering_asks

pub loop-u-preserved : goal.loop-u-preserved
loop-u-preserved c = search gathering_more
