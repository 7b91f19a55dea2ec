use Rattle.rules.proofs.Lists.{Filled}
use Rattle.converts.specs.Result.{behind}
use Rattle.appending.proofs.order.put_sheet_rows.Given as goal

abbrev pub invariant-loop-i : goal.invariant-loop-i
invariant-loop-i l = Filled l.initial.order (behind l.stored) l.rows l.order l.i
