-- The store's rows below x that have been met stand in order.
use borrow.Author.Rules.{rules}
use Rattle.appending.proofs.Arranging.{arranging_none, arranging_all}
use Rattle.appending.proofs.order.put_store_rows.Goals as goal

pub loop-x-init : goal.loop-x-init
loop-x-init c = (search arranging_none, search rules, search rules)

pub returns : goal.returns
returns c = search arranging_all
