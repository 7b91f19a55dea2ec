-- The bytes so far are written.
use Rattle.rules.proofs.Writes.{wrote_length}
use Rattle.text.proofs.Writes.{text_none, text_room, text_more, text_all}
use Rattle.text.proofs.put_text.Goals as goal

pub loop-b-init : goal.loop-b-init
loop-b-init c = search text_none

pub put_byte-to-requires : goal.put_byte-to-requires
put_byte-to-requires c = search text_room

pub loop-b-preserved : goal.loop-b-preserved
loop-b-preserved c = search text_more

pub shape_of-out : goal.shape_of-out
shape_of-out c = search wrote_length

pub returns : goal.returns
returns c = search text_all
