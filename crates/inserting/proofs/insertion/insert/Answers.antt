-- The shape first.
use native.Mathlib.Omega.{arith}
use Rattle.checking.proofs.Checking.{shape_told}
use Rattle.inserting.proofs.Inserting.{insert_flaw}
use Rattle.inserting.proofs.insertion.insert.Goals as goal

pub insert_shaped-requires : goal.insert_shaped-requires
insert_shaped-requires c = search shape_told

pub returns-in-Err : goal.returns-in-Err
returns-in-Err c =
    rw c.refused.ensures (insert_flaw _ _ _ _ c.shape_of.ensures _ _ _ c.in-Err.is c.number.ensures (omega arith))
