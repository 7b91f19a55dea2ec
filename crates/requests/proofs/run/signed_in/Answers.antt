-- The numbers read so far stand at the front.
use native.Mathlib.Omega.{arith}
use Rattle.requests.proofs.Signed.{signed_none, signed_more, signed_all}
use Rattle.requests.proofs.run.signed_in.Goals as goal

pub loop-i-init : goal.loop-i-init
loop-i-init c = search signed_none

pub loop-i-preserved : goal.loop-i-preserved
loop-i-preserved c = signed_more c.loop-i.invariant (omega arith) c.word_of.ensures c.signed.ensures

pub returns : goal.returns
returns c = signed_all c.loop-i.invariant (omega arith)
