-- A round in which nothing moved has sorted the rows.
use Rattle.classes.proofs.Rounds.{round_over, round_more}
use Rattle.classes.proofs.runs.one_round.Goals as goal

pub returns-in_err-settle : goal.returns-in_err-settle
returns-in_err-settle c = rw c.from_residual.ensures (round_over _ _ _ _ _ _ _ _ c.requires c.refine-made.ensures _ (rw c.rows.ensures at c.settle.ensures) c.in_err-settle.was)

pub returns : goal.returns
returns c = round_more _ _ _ _ _ _ _ _ c.requires c.refine-made.ensures _ (rw c.rows.ensures at c.settle.ensures) _ _ c.in_ok-settle.was
