-- Below the rows met, the next one, or past it.
use borrow.Author.Rules.{rules}
use Rattle.keytest.specs.Order.{sight_known, sight_next, sight_later}
use Rattle.keytest.proofs.order.sight.Goals as goal

pub returns-then-x-met : goal.returns-then-x-met
returns-then-x-met c = sight_known (search rules)

pub returns-then-x-met-2 : goal.returns-then-x-met-2
returns-then-x-met-2 c = sight_next (search rules)

pub returns : goal.returns
returns c = sight_later (search rules)
