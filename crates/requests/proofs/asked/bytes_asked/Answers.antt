use Rattle.requests.proofs.Requests.{opening_inside, bytes_asked_lem}
use Rattle.requests.proofs.asked.bytes_asked.Goals as goal

pub bytes_after-requires : goal.bytes_after-requires
bytes_after-requires c = search opening_inside

pub returns : goal.returns
returns c = search bytes_asked_lem
