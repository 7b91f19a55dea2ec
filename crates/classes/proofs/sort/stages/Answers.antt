-- Each stage leaves the classes ready for the next.
use Rattle.std.proofs.Common.{◌∙◌, rules}
use Rattle.classes.proofs.Stages.{underway_none, stage_again, stage_sorted, underway_sorted}
use Rattle.classes.proofs.sort.stages.Goals as goal

pub loop-turns-init : goal.loop-turns-init
loop-turns-init c = (search underway_none, search rules, search rules, search rules, search rules)

pub returns-in_default : goal.returns-in_default
returns-in_default c = search stage_sorted

pub loop-turns-preserved : goal.loop-turns-preserved
loop-turns-preserved c = let stage = c.stage in let held = c.loop-turns.invariant in (search stage_again, stage.auto.cls ∙ held.1, stage.auto.new ∙ held.2, stage.auto.links ∙ held.3, search rules)

pub returns : goal.returns
returns c = underway_sorted _ _ _ _ _ _ _ c.loop-turns.invariant.0 c.run_rounds.ensures
