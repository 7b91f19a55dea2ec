-- Label and count, and then the inputs.
use borrow.Author.Rules.{rules}
use Rattle.keywriter.proofs.Rows.{row_room, row_inputs, row_wrote}
use Rattle.keywriter.proofs.sheets.write_row.Goals as goal

pub put_five-past-requires : goal.put_five-past-requires
put_five-past-requires c = (search rules, search rules, search row_room)

pub write_inputs-requires : goal.write_inputs-requires
write_inputs-requires c = (search rules, search rules, search rules, search row_inputs)

pub returns : goal.returns
returns c = search row_wrote
