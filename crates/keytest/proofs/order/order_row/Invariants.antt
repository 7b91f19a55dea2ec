use Rattle.rows.specs.Joined.{source_of, joined}
use Rattle.keytest.proofs.Scanning.{Scanned}
use Rattle.keytest.proofs.order.order_row.Given as goal

abbrev pub invariant-loop-input : goal.invariant-loop-input
invariant-loop-input l = Scanned (joined (source_of l.view)) l.k l.seen l.inputs l.input-index l.met
