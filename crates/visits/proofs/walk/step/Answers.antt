-- A row on the way has no name.
use borrow.Author.Rules.{rules}
use Rattle.visits.proofs.Visits.{step_asks, step_down}
use Rattle.visits.proofs.walk.step.Goals as goal

pub down-requires : goal.down-requires
down-requires c =
    let asked = c.requires in
    step_asks _ _ _ _ _ asked.in_naming _ asked.u_bound _ c.entry-mark.ensures.0 _ c.input_or_over-x.ensures (search rules)

pub returns : goal.returns
returns c =
    let asked = c.requires in
    step_down _ _ _ _ _ asked.in_naming _ asked.u_bound _ c.entry-mark.ensures.0 (search rules) _ c.input_or_over-x.ensures (search rules) _ _ c.down.ensures
