-- The rows so far have been looked at.
use Rattle.dropping.proofs.Rounds.{looking_none, looking_asks, looking_more, looking_all}
use Rattle.dropping.proofs.drop_round.Goals as goal

pub loop-u-init : goal.loop-u-init
loop-u-init c = search looking_none

pub drop_row-moved-requires : goal.drop_row-moved-requires
drop_row-moved-requires c = search looking_asks

pub loop-u-preserved : goal.loop-u-preserved
loop-u-preserved c = search looking_more

pub returns : goal.returns
returns c = search looking_all
