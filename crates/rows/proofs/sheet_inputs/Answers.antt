-- The inputs resolved so far stand at the front.
use Rattle.rules.proofs.Lists.{filled_none}
use Rattle.rows.proofs.Inputs.{resolved_more, resolved_all}
use Rattle.rows.proofs.sheet_inputs.Goals as goal

pub loop-j-init : goal.loop-j-init
loop-j-init c = search filled_none

pub loop-j-preserved : goal.loop-j-preserved
loop-j-preserved c = search resolved_more

pub returns : goal.returns
returns c = search resolved_all
