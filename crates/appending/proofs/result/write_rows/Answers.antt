-- The rows so far are written.
use borrow.Author.Rules.{rules}
use Rattle.keywriter.proofs.Rows.{rows_begin, rows_room, rows_more, rows_all}
use Rattle.appending.proofs.result.write_rows.Goals as goal

pub loop-k-init : goal.loop-k-init
loop-k-init c = search rows_begin

pub write_row-to-requires-clause-ready : goal.write_row-to-requires-clause-ready
write_row-to-requires-clause-ready c = (search rules, search rules)

pub write_row-to-requires-clause-k_in_bounds : goal.write_row-to-requires-clause-k_in_bounds
write_row-to-requires-clause-k_in_bounds c = search rows_room

pub loop-k-preserved : goal.loop-k-preserved
loop-k-preserved c = search rows_more

pub returns : goal.returns
returns c = search rows_all
