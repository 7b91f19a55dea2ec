use lib.ListN.{length}
use mathlib.Core.Path.{◌≡◌}
use Rattle.choosing.specs.Marked.{Choosing}
use Rattle.rows.specs.View.{view_rows}
use Rattle.rows.specs.Joined.{source_of}
use Rattle.choosing.proofs.meet.meet.Given as goal

abbrev pub invariant-loop-u : goal.invariant-loop-u
invariant-loop-u l = Choosing (source_of l.view) l.view.table.now l.cls l.marks l.links × (length l.marks ≡ length l.initial.marks) × (length l.links ≡ length l.initial.links) × (l.n ≡ view_rows (source_of l.view) l.view.table.now)
