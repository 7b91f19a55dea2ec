use Rattle.std.proofs.Common.{◌≡◌, length}
use Rattle.hastening.specs.Ready.{Underway}
use Rattle.rounds.specs.Ending.{spread}
use Rattle.rounds.specs.Classes.{class_of}
use Rattle.rows.specs.View.{view_rows}
use Rattle.rows.specs.Joined.{source_of}
use Rattle.classes.proofs.sort.run_rounds.Given as goal

abbrev pub invariant-loop : goal.invariant-loop
invariant-loop l = Underway (source_of l.view) l.view.table.now l.initial.cls l.cls l.new l.links × (length l.cls ≡ length l.initial.cls) × (length l.new ≡ length l.initial.new) × (length l.links ≡ length l.initial.links)

abbrev pub decreases-loop : goal.decreases-loop
decreases-loop l = spread (view_rows (source_of l.view) l.view.table.now) (class_of l.cls)
