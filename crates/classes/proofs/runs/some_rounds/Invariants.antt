use Rattle.std.proofs.Common.{◌≡◌, ◌≤◌, length}
use Rattle.hastening.specs.Ready.{Underway}
use Rattle.rounds.specs.Ending.{spread}
use Rattle.rounds.specs.Classes.{class_of}
use Rattle.rows.specs.View.{view_rows}
use Rattle.rows.specs.Joined.{source_of}
use Rattle.classes.proofs.runs.some_rounds.Given as goal

abbrev pub invariant-loop-made : goal.invariant-loop-made
invariant-loop-made l = Underway (source_of l.view) l.view.table.now l.initial.cls l.cls l.new l.links × (length l.cls ≡ length l.initial.cls) × (length l.new ≡ length l.initial.new) × (length l.links ≡ length l.initial.links) × (spread (view_rows (source_of l.view) l.view.table.now) (class_of l.cls) ≤ spread (view_rows (source_of l.view) l.view.table.now) (class_of l.initial.cls))

abbrev pub decreases-loop-made : goal.decreases-loop-made
decreases-loop-made l = spread (view_rows (source_of l.view) l.view.table.now) (class_of l.cls)
