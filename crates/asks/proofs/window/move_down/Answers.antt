-- The bytes moved so far stand at the front. The measure is the bytes left to move.
use native.Mathlib.Omega.{arith}
use Rattle.asks.proofs.Moving.{moving_none, moving_more, moving_all, moving_nothing}
use Rattle.asks.proofs.window.move_down.Goals as goal

pub returns-then-at-eq0 : goal.returns-then-at-eq0
returns-then-at-eq0 c = search moving_nothing

pub loop-i-init : goal.loop-i-init
loop-i-init c = moving_none _ _ _ (omega arith)

pub loop-i-preserved : goal.loop-i-preserved
loop-i-preserved c = search moving_more

pub returns : goal.returns
returns c = search moving_all
