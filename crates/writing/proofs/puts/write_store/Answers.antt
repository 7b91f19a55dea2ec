-- The rows are put first, and word 0 is nobody's row.
use borrow.Author.Rules.{rules}
use Rattle.writing.proofs.Putting.{count_fits, stored_fits, count_after}
use Rattle.writing.proofs.puts.write_store.Goals as goal

pub write_count-requires : goal.write_count-requires
write_count-requires c = (search rules, search (count_fits, stored_fits))

pub returns : goal.returns
returns c = search count_after
