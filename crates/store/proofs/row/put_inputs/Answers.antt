-- The part of the store holds the inputs.
use native.Mathlib.Omega.{arith}
use borrow.Author.Rules.{rules}
use Rattle.store.proofs.Puts.{inputs_put}
use Rattle.store.proofs.row.put_inputs.Goals as goal

pub returns : goal.returns
returns c = inputs_put _ _ _ _ _ _ (omega arith) c.copy_from_slice.ensures.after (search rules) (omega arith) (omega arith)
