-- The walk has met the first rows, and no other.
use borrow.Author.Rules.{rules}
use Rattle.keytest.proofs.Scanning.{walked_none, walked_few, walked_more, walked_broken, walked_all}
use Rattle.keytest.proofs.order.in_order.Goals as goal

pub loop-k-init : goal.loop-k-init
loop-k-init c = (search walked_none, search rules)

pub returns-then-seen-k : goal.returns-then-seen-k
returns-then-seen-k c = search walked_few

pub returns-in_default : goal.returns-in_default
returns-in_default c = search walked_broken

pub loop-k-preserved : goal.loop-k-preserved
loop-k-preserved c = (search walked_more, search rules)

pub returns : goal.returns
returns c = search walked_all
