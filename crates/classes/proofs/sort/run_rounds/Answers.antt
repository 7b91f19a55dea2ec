-- Each run leaves the classes ready for the next, and nearer to the end.
use Rattle.std.proofs.Common.{◌∙◌, rules}
use Rattle.classes.proofs.Stages.{underway_none, rounds_less, run_again, run_done}
use Rattle.classes.proofs.sort.run_rounds.Goals as goal

pub loop-init : goal.loop-init
loop-init c = (search underway_none, search rules, search rules, search rules)

pub loop-smaller : goal.loop-smaller
loop-smaller c = search rounds_less

pub loop-preserved : goal.loop-preserved
loop-preserved c = let run = c.some_rounds in let held = c.loop.invariant in (search run_again, run.auto.cls ∙ held.1, run.auto.new ∙ held.2, run.auto.links ∙ held.3)

pub returns : goal.returns
returns c = search run_done
