-- Below 32,768 the jump of the row named, else it stays.
use borrow.Author.Rules.{rules}
use Rattle.wiring.proofs.Doublings.{onward_first, onward_there, onward_row, onward_stays}
use Rattle.wiring.proofs.passes.onward.Goals as goal

pub entry-x-requires : goal.entry-x-requires
entry-x-requires c = search onward_first

pub entry-requires : goal.entry-requires
entry-requires c = search onward_there

pub returns-then-x-lt-STORE_NUMBERS : goal.returns-then-x-lt-STORE_NUMBERS
returns-then-x-lt-STORE_NUMBERS c = (search onward_row, search rules)

pub returns : goal.returns
returns c = (search onward_stays, search rules)
