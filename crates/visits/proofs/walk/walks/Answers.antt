-- Each walk goes on.
use borrow.Author.Rules.{rules}
use mathlib.Core.Path.{◌∙◌}
use Rattle.naming.proofs.Goings.{went_none, went_on}
use Rattle.visits.proofs.walk.walks.Goals as goal

pub loop-u-init : goal.loop-u-init
loop-u-init c = (search went_none, search rules, search rules, search rules, search rules)

pub loop-u-preserved : goal.loop-u-preserved
loop-u-preserved c =
    let walk = c.walk in
    let held = c.loop-u.invariant in
    (went_on _ _ _ _ _ _ _ _ _ _ held.0 walk.ensures, walk.auto.cls ∙ held.1, walk.auto.marks ∙ held.2, walk.auto.links ∙ held.3, held.4)
