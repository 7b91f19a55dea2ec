use Rattle.requests.proofs.Requests.{reader_read}
use Rattle.requests.proofs.asked.reader_asked.Goals as goal

pub returns : goal.returns
returns c = search reader_read
