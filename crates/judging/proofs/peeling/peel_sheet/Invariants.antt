use Rattle.judging.proofs.Passes.{Turning}
use Rattle.judging.specs.Rules.{peeling}
use Rattle.judging.specs.Moves.{rest}
use Rattle.rows.specs.Joined.{source_of, drawn}
use Rattle.judging.proofs.peeling.peel_sheet.Given as goal

abbrev pub invariant-loop : goal.invariant-loop
invariant-loop l = Turning (peeling (drawn (source_of l.view))) l.initial.state l.state

abbrev pub decreases-loop : goal.decreases-loop
decreases-loop l = rest l.state
