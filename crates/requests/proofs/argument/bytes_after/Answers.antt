use Rattle.sheet.proofs.Handed.{handed_on}
use Rattle.requests.proofs.Arguments.{bytes_read, bytes_stopped}
use Rattle.requests.proofs.argument.bytes_after.Goals as goal

pub returns-in_err-head : goal.returns-in_err-head
returns-in_err-head c = rw (handed_on _ _ c.from_residual.ensures.1) (bytes_stopped _ _ c.in_err-head.ensures)

pub returns : goal.returns
returns c = bytes_read _ _ c.in_ok-head.ensures c.body_after.ensures
