use Rattle.requests.proofs.Requests.{mend_read}
use Rattle.requests.proofs.asked.mend_asked.Goals as goal

pub returns : goal.returns
returns c = search mend_read
