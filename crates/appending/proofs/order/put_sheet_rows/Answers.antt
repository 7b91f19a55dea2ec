-- The sheet's rows so far stand at the front.
use Rattle.rules.proofs.Lists.{filled_none}
use Rattle.appending.proofs.Arranging.{sheet_more, sheet_filled}
use Rattle.appending.proofs.order.put_sheet_rows.Goals as goal

pub loop-i-init : goal.loop-i-init
loop-i-init c = search filled_none

pub loop-i-preserved : goal.loop-i-preserved
loop-i-preserved c = search sheet_more

pub returns : goal.returns
returns c = search sheet_filled
