-- The head, and then the rows.
use borrow.Author.Rules.{rules}
use Rattle.keywriter.proofs.Whole.{need_least, need_few, sheet_rows, sheet_wrote}
use Rattle.keywriter.proofs.sheets.write_sheet.Goals as goal

pub write_head-past-requires : goal.write_head-past-requires
write_head-past-requires c = (search need_least, search need_few, search rules, search rules)

pub write_rows-requires : goal.write_rows-requires
write_rows-requires c = (search rules, search sheet_rows)

pub returns : goal.returns
returns c = search sheet_wrote
