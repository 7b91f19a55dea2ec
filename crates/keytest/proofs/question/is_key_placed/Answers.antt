-- A key holds no wires, and without wires rows are read as they stand.
use borrow.Author.Rules.{rules}
use Rattle.keytest.proofs.Answering.{key_placed, key_wired, key_plain}
use Rattle.keytest.proofs.question.is_key_placed.Goals as goal

pub all_plain-requires : goal.all_plain-requires
all_plain-requires c = search key_placed

pub returns-then-not-all_plain : goal.returns-then-not-all_plain
returns-then-not-all_plain c = search key_wired

pub is_key_view-requires-clause-tabled : goal.is_key_view-requires-clause-tabled
is_key_view-requires-clause-tabled c = (search rules, search key_plain)

pub is_key_view-requires-clause-bytes_nonzero : goal.is_key_view-requires-clause-bytes_nonzero
is_key_view-requires-clause-bytes_nonzero c = (search rules, search rules)
