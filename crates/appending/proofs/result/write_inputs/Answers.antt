-- The inputs so far are written.
use Rattle.keywriter.proofs.Rows.{inputs_begin, inputs_room, inputs_all}
use Rattle.appending.proofs.Writing.{places_more, place_small}
use Rattle.appending.proofs.result.write_inputs.Goals as goal

pub loop-j-init : goal.loop-j-init
loop-j-init c = search inputs_begin

pub put_two-to-requires : goal.put_two-to-requires
put_two-to-requires c = (search place_small, search inputs_room)

pub loop-j-preserved : goal.loop-j-preserved
loop-j-preserved c = search places_more

pub returns : goal.returns
returns c = search inputs_all
