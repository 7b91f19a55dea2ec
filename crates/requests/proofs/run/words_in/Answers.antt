-- The words read so far stand at the front.
use native.Mathlib.Omega.{arith}
use Rattle.requests.proofs.Runs.{filling_none, filling_more, filling_all}
use Rattle.requests.proofs.run.words_in.Goals as goal

pub loop-i-init : goal.loop-i-init
loop-i-init c = search filling_none

pub loop-i-preserved : goal.loop-i-preserved
loop-i-preserved c = filling_more c.loop-i.invariant (omega arith) c.word_of.ensures

pub returns : goal.returns
returns c = filling_all c.loop-i.invariant (omega arith)
