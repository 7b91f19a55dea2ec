use Rattle.sheet.proofs.Handed.{handed_on}
use Rattle.requests.proofs.Arguments.{words_read, words_stopped}
use Rattle.requests.proofs.argument.words_after.Goals as goal

pub returns-in_err-head : goal.returns-in_err-head
returns-in_err-head c = rw (handed_on _ _ c.from_residual.ensures.1) (words_stopped _ _ c.in_err-head.ensures)

pub returns : goal.returns
returns c = words_read _ _ c.in_ok-head.ensures c.body_after.ensures
