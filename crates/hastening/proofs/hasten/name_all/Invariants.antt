use mathlib.Core.Path.{◌≡◌}
use lib.ListN.{length}
use Rattle.rows.specs.Joined.{source_of}
use Rattle.rows.specs.View.{view_rows}
use Rattle.rounds.specs.Classes.{class_of}
use Rattle.names.specs.Waiting.{waiting}
use Rattle.naming.specs.InNaming.{Went}
use Rattle.hastening.proofs.hasten.name_all.Given as goal

abbrev pub invariant-loop : goal.invariant-loop
invariant-loop l = Went (source_of l.view) l.view.table.now l.initial.cls l.initial.marks l.cls l.marks l.links × (length l.cls ≡ length l.initial.cls) × (length l.marks ≡ length l.initial.marks) × (length l.links ≡ length l.initial.links)

abbrev pub decreases-loop : goal.decreases-loop
decreases-loop l = waiting (view_rows (source_of l.view) l.view.table.now) (class_of l.marks)
