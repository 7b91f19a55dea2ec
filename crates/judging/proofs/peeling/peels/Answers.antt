-- A hold, or what its inputs say.
use Rattle.judging.proofs.Inputs.{inputs_there, peels_held, peels_told}
use Rattle.judging.proofs.peeling.peels.Goals as goal

pub returns-then-row-eq-HOLD : goal.returns-then-row-eq-HOLD
returns-then-row-eq-HOLD c = search peels_held

pub all_gone-requires : goal.all_gone-requires
all_gone-requires c = search inputs_there

pub returns : goal.returns
returns c = search peels_told
