-- The front first, then whether there are rows.
use borrow.Author.Rules.{rules}
use native.Mathlib.Omega.{arith}
use Rattle.keytest.proofs.Answering.{key_refused, key_none, key_some}
use Rattle.keytest.proofs.question.is_key.Goals as goal

pub is_key_rows-requires : goal.is_key_rows-requires
is_key_rows-requires c = search key_some

pub returns-in-Err : goal.returns-in-Err
returns-in-Err c = record { says = search key_refused; each = λ i. omega (arith, c.type_inv.bytes i) }

pub returns-in-Ok-eq0 : goal.returns-in-Ok-eq0
returns-in-Ok-eq0 c = record { says = search key_none; each = λ i. omega (arith, c.type_inv.bytes i) }

pub returns-in-Ok : goal.returns-in-Ok
returns-in-Ok c = record { says = search rules; each = λ i. omega (arith, c.type_inv.bytes i) }
