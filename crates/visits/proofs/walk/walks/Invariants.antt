use mathlib.Core.Path.{◌≡◌}
use lib.ListN.{length}
use Rattle.rows.specs.Joined.{source_of}
use Rattle.rows.specs.View.{view_rows}
use Rattle.naming.specs.InNaming.{Went}
use Rattle.visits.proofs.walk.walks.Given as goal

abbrev pub invariant-loop-u : goal.invariant-loop-u
invariant-loop-u l = Went (source_of l.view) l.view.table.now l.initial.cls l.initial.marks l.cls l.marks l.links × (length l.cls ≡ length l.initial.cls) × (length l.marks ≡ length l.initial.marks) × (length l.links ≡ length l.initial.links) × (l.n ≡ view_rows (source_of l.view) l.view.table.now)
