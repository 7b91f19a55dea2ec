-- The slots from the bucket of its signature on.
use Rattle.naming.proofs.Names.{probing}
use Rattle.naming.proofs.naming.find_slot.Goals as goal

pub probe-requires-clause-probing : goal.probe-requires-clause-probing
probe-requires-clause-probing c = search probing
