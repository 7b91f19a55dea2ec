-- The head, and then the rows.
use borrow.Author.Rules.{rules}
use Rattle.appending.proofs.Writing.{result_least, result_few, result_rows, result_wrote}
use Rattle.appending.proofs.result.write_result.Goals as goal

pub write_head-past-requires : goal.write_head-past-requires
write_head-past-requires c = (search result_least, search result_few, search rules, search rules)

pub write_rows-requires-clause-total_in_bounds : goal.write_rows-requires-clause-total_in_bounds
write_rows-requires-clause-total_in_bounds c = search result_rows

pub returns : goal.returns
returns c = search result_wrote
