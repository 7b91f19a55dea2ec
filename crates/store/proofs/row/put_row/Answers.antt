-- Label and count are written first, then the inputs.
use native.Mathlib.Omega.{arith}
use lib.ListN.{length-set}
use Rattle.store.proofs.Puts.{row_put}
use Rattle.store.proofs.row.put_row.Goals as goal

pub bounds-store-at-2 : goal.bounds-store-at-2
bounds-store-at-2 c = simp length-set (omega arith)

pub put_inputs-requires : goal.put_inputs-requires
put_inputs-requires c = simp length-set (omega arith)

pub returns : goal.returns
returns c = search row_put
