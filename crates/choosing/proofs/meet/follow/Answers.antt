-- Step after step.
use mathlib.Core.Path.{◌∙◌}
use Rattle.choosing.proofs.meet.follow.Goals as goal

pub loop-taken-preserved : goal.loop-taken-preserved
loop-taken-preserved c = let step = c.step-u in let held = c.loop-taken.invariant in (step.ensures, step.auto.marks ∙ held.1, step.auto.links ∙ held.2, held.3)
