-- Label and count, and then the inputs.
use borrow.Author.Rules.{rules}
use Rattle.appending.proofs.Reading.{count_byte, inputs_placed}
use Rattle.appending.proofs.Writing.{row_inputs_room, row_written}
use Rattle.keywriter.proofs.Rows.{row_room}
use Rattle.appending.proofs.result.write_row.Goals as goal

pub put_five-past-requires : goal.put_five-past-requires
put_five-past-requires c = (search rules, search count_byte, search row_room)

pub write_inputs-requires : goal.write_inputs-requires
write_inputs-requires c = (search inputs_placed, search row_inputs_room)

pub returns : goal.returns
returns c = search row_written
