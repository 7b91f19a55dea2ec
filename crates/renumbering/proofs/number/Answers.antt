-- The rows so far are numbered.
use Rattle.renumbering.proofs.Giving.{giving_none, giving_more, giving_all}
use Rattle.renumbering.proofs.number.Goals as goal

pub loop-u-init : goal.loop-u-init
loop-u-init c = search giving_none

pub loop-u-preserved : goal.loop-u-preserved
loop-u-preserved c = search giving_more

pub returns : goal.returns
returns c = search giving_all
