use Rattle.judging.proofs.Visiting.{SheetSoFar}
use Rattle.rows.specs.Joined.{source_of}
use mathlib.Core.Path.{◌≡◌}
use lib.ListN.{length}
use Rattle.judging.proofs.meeting.meet_sheet.Given as goal

abbrev pub invariant-loop-u : goal.invariant-loop-u
invariant-loop-u l = SheetSoFar (source_of l.view) l.view.table.now l.initial.state l.u l.state l.queue l.met × (length l.queue ≡ length l.initial.queue)
