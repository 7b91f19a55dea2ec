-- The head and the rows so far are so long.
use Rattle.keywriter.proofs.Whole.{measured_none, measured_more}
use Rattle.appending.proofs.Writing.{length_all, length_few}
use Rattle.appending.proofs.result.result_length.Goals as goal

pub loop-i-init : goal.loop-i-init
loop-i-init c = search measured_none

pub loop-i-preserved : goal.loop-i-preserved
loop-i-preserved c = search measured_more

pub returns : goal.returns
returns c = (search length_all, search length_few)
