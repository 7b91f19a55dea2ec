-- The store first.
use Rattle.checking.proofs.Looking.{checked_sound}
use Rattle.converter.proofs.Converting.{store_refused}
use Rattle.converter.proofs.convert.Goals as goal

pub convert_sound-requires : goal.convert_sound-requires
convert_sound-requires c = search checked_sound

pub returns-in-Err : goal.returns-in-Err
returns-in-Err c = rw c.refused.ensures (search store_refused)
