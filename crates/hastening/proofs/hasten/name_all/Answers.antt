-- Each turn but the last names a row.
use borrow.Author.Rules.{rules}
use mathlib.Core.Path.{◌∙◌}
use Rattle.naming.proofs.Goings.{went_none}
use Rattle.hastening.proofs.Hastening.{named_on, named_less, named_all}
use Rattle.hastening.proofs.hasten.name_all.Goals as goal

pub loop-init : goal.loop-init
loop-init c = (search went_none, search rules, search rules, search rules)

pub returns : goal.returns
returns c = search named_all

pub loop-smaller : goal.loop-smaller
loop-smaller c = search named_less

pub loop-preserved : goal.loop-preserved
loop-preserved c =
    let turn = c.turn in
    let held = c.loop.invariant in
    (search named_on, turn.auto.cls ∙ held.1, turn.auto.marks ∙ held.2, turn.auto.links ∙ held.3)
