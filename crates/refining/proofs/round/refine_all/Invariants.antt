use Rattle.std.proofs.Common.{◌≡◌, length}
use Rattle.rows.specs.Joined.{source_of}
use Rattle.rows.specs.View.{view_rows}
use Rattle.refining.specs.Seeking.{Round}
use Rattle.refining.proofs.round.refine_all.Given as goal

abbrev pub invariant-loop-u : goal.invariant-loop-u
invariant-loop-u l = Round (source_of l.view) l.view.table.now l.cls l.new l.links l.u × (length l.new ≡ length l.initial.new) × (length l.links ≡ length l.initial.links) × (l.n ≡ view_rows (source_of l.view) l.view.table.now)
