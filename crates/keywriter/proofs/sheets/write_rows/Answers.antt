-- The rows so far are written.
use borrow.Author.Rules.{rules}
use Rattle.keywriter.proofs.Rows.{rows_begin, rows_room, rows_more, rows_all}
use Rattle.keywriter.proofs.sheets.write_rows.Goals as goal

pub loop-k-init : goal.loop-k-init
loop-k-init c = (search rows_begin, search rules)

pub write_row-to-requires : goal.write_row-to-requires
write_row-to-requires c = (search rules, search rules, search rows_room)

pub loop-k-preserved : goal.loop-k-preserved
loop-k-preserved c = (search rows_more, search rules)

pub returns : goal.returns
returns c = search rows_all
