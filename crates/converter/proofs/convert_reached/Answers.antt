-- The rows in order decide between 20 and the rest.
use Rattle.converter.proofs.Converting.{too_many, all_ready}
use Rattle.converter.proofs.convert_reached.Goals as goal

pub returns-then-total-gt1024 : goal.returns-then-total-gt1024
returns-then-total-gt1024 c = rw c.refused.ensures (search too_many)

pub finish-requires-clause-ready : goal.finish-requires-clause-ready
finish-requires-clause-ready c = search all_ready
