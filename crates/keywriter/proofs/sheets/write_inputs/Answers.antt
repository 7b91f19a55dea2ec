-- The inputs so far are written.
use borrow.Author.Rules.{rules}
use Rattle.keywriter.proofs.Rows.{inputs_begin, inputs_room, inputs_more, inputs_all}
use Rattle.keywriter.proofs.sheets.write_inputs.Goals as goal

pub loop-j-init : goal.loop-j-init
loop-j-init c = (search inputs_begin, search rules)

pub put_two-to-requires : goal.put_two-to-requires
put_two-to-requires c = (search rules, search inputs_room)

pub loop-j-preserved : goal.loop-j-preserved
loop-j-preserved c = (search inputs_more, search rules)

pub returns : goal.returns
returns c = search inputs_all
