-- The answer list is looked at before the trees are counted.
use borrow.Author.Rules.{rules}
use Rattle.inserting.proofs.Inserting.{back_short}
use Rattle.inserting.proofs.Backing.{backed_few, backed_totalled}
use Rattle.inserting.proofs.insertion.back.Goals as goal

pub returns-then-answers-table : goal.returns-then-answers-table
returns-then-answers-table c = rw c.refused.ensures (search back_short)

pub count_trees-total-requires : goal.count_trees-total-requires
count_trees-total-requires c = (search backed_few, search rules)

pub finish-requires : goal.finish-requires
finish-requires c = search backed_totalled
