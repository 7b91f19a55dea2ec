use Rattle.requests.proofs.Requests.{convert_read}
use Rattle.requests.proofs.asked.convert_asked.Goals as goal

pub returns : goal.returns
returns c = search convert_read
