use Rattle.sheet.proofs.Handed.{handed_on}
use Rattle.requests.proofs.Arguments.{number_kept, number_more, number_there}
use Rattle.requests.proofs.argument.number_after.Goals as goal

pub returns-in_err-at : goal.returns-in_err-at
returns-in_err-at c = rw (handed_on _ _ c.from_residual.ensures.1) (number_kept c.in_err-at.was)

pub returns-then-ask-at-lt4 : goal.returns-then-ask-at-lt4
returns-then-ask-at-lt4 c = search (number_more, c.in_ok-at.was)

pub returns : goal.returns
returns c = search (number_there, c.in_ok-at.was)
