-- By a named row, as one, or not at all.
use borrow.Author.Rules.{rules}
use Rattle.naming.proofs.Names.{row_few, row_small, same_small, free_small, named_same, named_new, named_none}
use Rattle.naming.proofs.naming.name.Goals as goal

pub give-requires : goal.give-requires
give-requires c = (search rules, search rules, search same_small)

pub give-requires-in-Free : goal.give-requires-in-Free
give-requires-in-Free c = (search rules, search rules, search row_small)

pub fill-requires : goal.fill-requires
fill-requires c = (search rules, search free_small, search row_few)

pub returns-in-Same : goal.returns-in-Same
returns-in-Same c = search named_same

pub returns-in-Free : goal.returns-in-Free
returns-in-Free c = search named_new

pub returns-in-Full : goal.returns-in-Full
returns-in-Full c = search named_none
