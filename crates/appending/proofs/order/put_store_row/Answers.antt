-- Not met, or met and put behind the others.
use Rattle.appending.proofs.Arranging.{row_past, row_with}
use Rattle.appending.proofs.order.put_store_row.Goals as goal

pub returns-then-not-met : goal.returns-then-not-met
returns-then-not-met c = search row_past

pub returns : goal.returns
returns c = search row_with
