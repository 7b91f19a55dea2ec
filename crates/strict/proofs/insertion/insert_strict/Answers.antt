-- The store's shape first.
use Rattle.checking.proofs.Checking.{shape_told}
use Rattle.strict.proofs.Strictly.{strict_flaw}
use Rattle.strict.proofs.insertion.insert_strict.Goals as goal

pub strict_shaped-requires : goal.strict_shaped-requires
strict_shaped-requires c = search shape_told

pub returns-in-Err : goal.returns-in-Err
returns-in-Err c = rw c.refused.ensures (search strict_flaw)
