-- The label's upper half is 7.
use Rattle.spoiling.proofs.Faults.{wire_told}
use Rattle.spoiling.proofs.wire_at.Goals as goal

pub returns : goal.returns
returns c = search wire_told
