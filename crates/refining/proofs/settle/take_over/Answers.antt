-- The new classes stand at the front so far.
use Rattle.rules.proofs.Lists.{filled_none, filled_more, filled_all}
use Rattle.refining.proofs.settle.take_over.Goals as goal

pub loop-u-init : goal.loop-u-init
loop-u-init c = search filled_none

pub loop-u-preserved : goal.loop-u-preserved
loop-u-preserved c = search filled_more

pub returns : goal.returns
returns c = search filled_all
