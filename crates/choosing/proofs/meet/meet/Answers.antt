-- Row after row.
use mathlib.Core.Path.{◌∙◌}
use Rattle.choosing.proofs.meet.meet.Goals as goal

pub loop-u-preserved : goal.loop-u-preserved
loop-u-preserved c = let below = c.meet_below in let held = c.loop-u.invariant in (below.ensures, below.auto.marks ∙ held.1, below.auto.links ∙ held.2, held.3)
