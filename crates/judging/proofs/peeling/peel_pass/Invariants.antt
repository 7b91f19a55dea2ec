use Rattle.judging.proofs.Passes.{Passing}
use Rattle.judging.specs.Rules.{peeling}
use Rattle.rows.specs.View.{view_rows}
use Rattle.rows.specs.Joined.{source_of, drawn}
use Rattle.judging.proofs.peeling.peel_pass.Given as goal

abbrev pub invariant-loop-u : goal.invariant-loop-u
invariant-loop-u l = Passing (peeling (drawn (source_of l.view))) (view_rows (source_of l.view) l.view.table.now) l.initial.state l.u (view_rows (source_of l.view) l.view.table.now) l.state l.moved
