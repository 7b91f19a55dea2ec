-- So many passes follow two to that power wires.
use Rattle.wiring.proofs.Doublings.{passes_none, passes_there, passes_more, passes_all}
use Rattle.wiring.proofs.passes.double_all.Goals as goal

pub loop-k-init : goal.loop-k-init
loop-k-init c = search passes_none

pub double-requires : goal.double-requires
double-requires c = search passes_there

pub loop-k-preserved : goal.loop-k-preserved
loop-k-preserved c = search passes_more

pub returns : goal.returns
returns c = (search passes_there, search passes_all)
