-- The invariant: every whole request before the place was answered. The measure is the bytes left.
use Rattle.asks.proofs.Turning.{going_none, going_over, going_fits, going_less, going_whole, going_more}
use Rattle.asks.proofs.turns.answer_all.Goals as goal

pub loop-last-init : goal.loop-last-init
loop-last-init c = search going_none

pub returns-in-Err : goal.returns-in-Err
returns-in-Err c = going_over c.loop-last.invariant c.rest_at-ask.ensures c.in-Err.ensures

pub answer-requires : goal.answer-requires
answer-requires c = going_whole c.loop-last.invariant c.rest_at-ask.ensures c.in-Ok.ensures

pub overflow_add-at : goal.overflow_add-at
overflow_add-at c = record { fits = going_fits c.loop-last.invariant c.rest_at-ask.ensures c.in-Ok.ensures }

pub loop-last-smaller : goal.loop-last-smaller
loop-last-smaller c = going_less c.loop-last.invariant c.rest_at-ask.ensures c.in-Ok.ensures

pub loop-last-preserved : goal.loop-last-preserved
loop-last-preserved c = going_more c.loop-last.invariant c.rest_at-ask.ensures c.in-Ok.ensures
