-- The store first.
use Rattle.checking.proofs.Looking.{checked_sound}
use Rattle.keying.proofs.Keying.{store_refused}
use Rattle.keying.proofs.write_key.Goals as goal

pub write_in-requires : goal.write_in-requires
write_in-requires c = search checked_sound

pub returns-in-Err : goal.returns-in-Err
returns-in-Err c = rw c.refused.ensures (search store_refused)
