-- Rows named, and some rounds.
use Rattle.classes.proofs.Stages.{stage_says}
use Rattle.classes.proofs.sort.stage.Goals as goal

pub returns : goal.returns
returns c = stage_says _ _ _ _ _ _ c.hurry.ensures _ _ _ _ c.some_rounds.ensures
