use mathlib.Core.Path.{◌≡◌}
use Rattle.rows.specs.View.{view_rows}
use Rattle.rows.specs.Joined.{source_of}
use Rattle.choosing.proofs.meet.cut_of.Given as goal

abbrev pub invariant-loop-looks : goal.invariant-loop-looks
invariant-loop-looks l = l.n ≡ view_rows (source_of l.view) l.view.table.now
