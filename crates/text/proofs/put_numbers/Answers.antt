-- The numbers so far are written.
use Rattle.rules.proofs.Writes.{wrote_length}
use Rattle.text.proofs.Numbers.{numbers_none, numbers_room, numbers_more, numbers_all}
use Rattle.text.proofs.put_numbers.Goals as goal

pub loop-n-init : goal.loop-n-init
loop-n-init c = search numbers_none

pub put_spaced-to-requires : goal.put_spaced-to-requires
put_spaced-to-requires c = search numbers_room

pub loop-n-preserved : goal.loop-n-preserved
loop-n-preserved c = search numbers_more

pub shape_of-out : goal.shape_of-out
shape_of-out c = search wrote_length

pub returns : goal.returns
returns c = search numbers_all
