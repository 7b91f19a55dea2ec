use Rattle.requests.proofs.Requests.{run_read}
use Rattle.requests.proofs.asked.run_asked.Goals as goal

pub returns : goal.returns
returns c = search run_read
