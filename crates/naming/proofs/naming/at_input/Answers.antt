-- Past the count the other value.
use borrow.Author.Rules.{rules}
use Rattle.naming.proofs.Entries.{entry_in, entry_past, entry_inside}
use Rattle.naming.proofs.naming.at_input.Goals as goal

pub entry-requires : goal.entry-requires
entry-requires c = search entry_inside

pub returns-then-j-count : goal.returns-then-j-count
returns-then-j-count c = (search entry_in, search rules)

pub returns : goal.returns
returns c = (search entry_past, search rules)
