use Rattle.std.proofs.Common.{◌≡◌, ◌-◌, ◌<◌, length}
use Rattle.hastening.specs.Ready.{Underway}
use Rattle.rows.specs.Joined.{source_of}
use Rattle.classes.proofs.sort.stages.Given as goal

abbrev pub invariant-loop-turns : goal.invariant-loop-turns
invariant-loop-turns l = Underway (source_of l.view) l.view.table.now l.initial.cls l.cls l.new l.links × (length l.cls ≡ length l.initial.cls) × (length l.new ≡ length l.initial.new) × (length l.links ≡ length l.initial.links) × (0 < l.turns)

abbrev pub decreases-loop-turns : goal.decreases-loop-turns
decreases-loop-turns l = 2048 - l.turns
