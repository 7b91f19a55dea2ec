-- Each step goes on.
use borrow.Author.Rules.{rules}
use mathlib.Core.Path.{◌∙◌}
use Rattle.naming.proofs.Goings.{went_none, went_on}
use Rattle.visits.proofs.walk.follow.Goals as goal

pub loop-taken-init : goal.loop-taken-init
loop-taken-init c = (search went_none, search rules, search rules, search rules, search rules)

pub loop-taken-preserved : goal.loop-taken-preserved
loop-taken-preserved c =
    let step = c.step-u in
    let held = c.loop-taken.invariant in
    (went_on _ _ _ _ _ _ _ _ _ _ held.0 step.ensures, step.auto.cls ∙ held.1, step.auto.marks ∙ held.2, step.auto.links ∙ held.3, held.4)
