-- The second store, once the first is sound.
use Rattle.checking.proofs.Looking.{checked_sound}
use Rattle.comparing.proofs.Trees.{second_refused}
use Rattle.comparing.proofs.compare_second.Goals as goal

pub compare_rows-requires : goal.compare_rows-requires
compare_rows-requires c = search checked_sound

pub returns-in-Err : goal.returns-in-Err
returns-in-Err c = rw c.refused.ensures (search second_refused)
