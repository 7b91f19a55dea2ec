-- The target's capacity, and then the rows.
use native.Mathlib.Nat.{le_refl}
use Rattle.widening.proofs.Answering.{target_none, target_small, target_fits, target_done}
use Rattle.widening.proofs.whole.widen_sound.Goals as goal

pub returns-in_default : goal.returns-in_default
returns-in_default c = search target_none

pub returns-then-capacity-rows : goal.returns-then-capacity-rows
returns-then-capacity-rows c = search (target_small, le_refl)

pub put_all-requires : goal.put_all-requires
put_all-requires c = search target_fits

pub returns : goal.returns
returns c = search target_done
