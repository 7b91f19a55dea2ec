-- The first store first.
use Rattle.checking.proofs.Looking.{checked_sound}
use Rattle.comparing.proofs.Trees.{first_refused}
use Rattle.comparing.proofs.compare.Goals as goal

pub compare_second-requires : goal.compare_second-requires
compare_second-requires c = search checked_sound

pub returns-in-Err : goal.returns-in-Err
returns-in-Err c = rw c.refused.ensures (search first_refused)
