use Rattle.requests.proofs.Requests.{compare_read}
use Rattle.requests.proofs.asked.compare_asked.Goals as goal

pub returns : goal.returns
returns c = search compare_read
