use Rattle.requests.proofs.Requests.{part_read}
use Rattle.requests.proofs.asked.part_asked.Goals as goal

pub returns : goal.returns
returns c = search part_read
