-- Each round leaves the classes ready for the next, and nearer to the end.
use Rattle.std.proofs.Common.{◌∙◌, rules}
use Rattle.classes.proofs.Stages.{underway_none, round_again, round_nearer, round_near, round_left, round_settled}
use Rattle.classes.proofs.runs.some_rounds.Goals as goal

pub loop-made-init : goal.loop-made-init
loop-made-init c = (search underway_none, search rules, search rules, search rules, search rules)

pub returns-in_err-made : goal.returns-in_err-made
returns-in_err-made c = rw c.from_residual.ensures (round_settled _ _ _ _ _ _ _ _ _ c.loop-made.invariant.0 _ c.one_round.ensures c.in_err-made.was)

pub returns-then-weary : goal.returns-then-weary
returns-then-weary c =
    round_left _ _ _ _ _ _ _ _ _ c.loop-made.invariant.0 _ c.one_round.ensures _ c.in_ok-made.was c.loop-made.invariant.4

pub loop-made-smaller : goal.loop-made-smaller
loop-made-smaller c = round_nearer _ _ _ _ _ _ _ _ _ c.loop-made.invariant.0 _ c.one_round.ensures _ c.in_ok-made.was

pub loop-made-preserved : goal.loop-made-preserved
loop-made-preserved c = let round = c.one_round in let held = c.loop-made.invariant in (round_again _ _ _ _ _ _ _ _ _ c.loop-made.invariant.0 _ c.one_round.ensures _ c.in_ok-made.was, round.auto.cls ∙ held.1, round.auto.new ∙ held.2, round.auto.links ∙ held.3, round_near _ _ _ _ _ _ _ _ _ c.loop-made.invariant.0 _ c.one_round.ensures _ c.in_ok-made.was c.loop-made.invariant.4)
