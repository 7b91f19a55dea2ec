use Rattle.requests.proofs.Arguments.{body_long, body_more, body_there}
use Rattle.requests.proofs.argument.body_after.Goals as goal

pub returns-then-most-count : goal.returns-then-most-count
returns-then-most-count c = search body_long

pub returns-then-ask-at : goal.returns-then-ask-at
returns-then-ask-at c = search body_more

pub returns : goal.returns
returns c = search body_there
