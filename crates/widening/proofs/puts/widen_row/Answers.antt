-- The row as it was read, put at its number.
use borrow.Author.Rules.{rules}
use native.Mathlib.Omega.{arith}
use Rattle.widening.proofs.Filling.{there_below, row_widened}
use Rattle.widening.proofs.puts.widen_row.Goals as goal

pub put_row-requires : goal.put_row-requires
put_row-requires c = there_below _ _ c.args.n _ (search rules) (omega arith)

pub returns : goal.returns
returns c = search row_widened
