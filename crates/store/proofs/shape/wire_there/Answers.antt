-- The label read is the row's.
use Rattle.store.proofs.Shapes.{wire_told}
use Rattle.store.proofs.shape.wire_there.Goals as goal

pub returns : goal.returns
returns c = search wire_told
