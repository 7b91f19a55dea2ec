use Rattle.requests.proofs.Requests.{key_read}
use Rattle.requests.proofs.asked.key_asked.Goals as goal

pub returns : goal.returns
returns c = search key_read
