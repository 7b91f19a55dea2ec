-- No row so far is a wire.
use Rattle.keytest.proofs.Boxes.{plain_none, plain_placed, plain_row, plain_some, plain_more, plain_all}
use Rattle.keytest.proofs.plain.all_plain.Goals as goal

pub loop-i-init : goal.loop-i-init
loop-i-init c = search plain_none

pub wire_at-requires : goal.wire_at-requires
wire_at-requires c = (search plain_placed, search plain_row)

pub returns-then-wire_at : goal.returns-then-wire_at
returns-then-wire_at c = search plain_some

pub loop-i-preserved : goal.loop-i-preserved
loop-i-preserved c = search plain_more

pub returns : goal.returns
returns c = search plain_all
