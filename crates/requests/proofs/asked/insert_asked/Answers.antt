use Rattle.requests.proofs.Requests.{insert_read}
use Rattle.requests.proofs.asked.insert_asked.Goals as goal

pub returns : goal.returns
returns c = search insert_read
