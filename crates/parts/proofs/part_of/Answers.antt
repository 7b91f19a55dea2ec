-- The store first.
use Rattle.parts.proofs.Parting.{part_refused}
use Rattle.checking.proofs.Looking.{checked_sound}
use Rattle.parts.proofs.part_of.Goals as goal

pub part_in-requires : goal.part_in-requires
part_in-requires c = search checked_sound

pub returns-in-Err : goal.returns-in-Err
returns-in-Err c = rw c.refused.ensures (search part_refused)
