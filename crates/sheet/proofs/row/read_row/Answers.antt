-- Each test that fails refuses the row with the place where it starts.
use native.Mathlib.Omega.{arith}
use Rattle.sheet.proofs.Rows.{row_past, row_crowded, row_long, row_read}
use Rattle.sheet.proofs.row.read_row.Goals as goal

pub returns-then-length-lt5 : goal.returns-then-length-lt5
returns-then-length-lt5 c = row_past _ _ _ (omega arith)

pub returns-then-length-at : goal.returns-then-length-at
returns-then-length-at c = row_past _ _ _ (omega arith)

pub returns-then-most-count : goal.returns-then-most-count
returns-then-most-count c = row_crowded _ _ _ _ c.byte-count.ensures.0 c.if-most-count.true

pub returns-then-length-next : goal.returns-then-length-next
returns-then-length-next c = row_long _ _ _ _ c.byte-count.ensures.0 c.if-length-next.true

pub returns : goal.returns
returns c = search row_read
