-- Within the table its entry, past it free.
use Rattle.judging.proofs.Tables.{past_free}
use Rattle.judging.proofs.catalogue.inputs_of.Goals as goal

pub returns : goal.returns
returns c = search past_free
