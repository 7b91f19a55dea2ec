-- A marked row stays.
use Rattle.jumping.proofs.Ends.{first_stays, first_goes}
use Rattle.jumping.proofs.first_jump.Goals as goal

pub returns-else-entry_of : goal.returns-else-entry_of
returns-else-entry_of c = search first_stays

pub returns-then-entry_of : goal.returns-then-entry_of
returns-then-entry_of c = search first_goes
