-- From 2,147,483,648 on a word is as far below 0 as 4,294,967,296 is above it.
use native.Mathlib.Omega.{arith}
use Rattle.requests.proofs.Signed.{signed_cast}
use Rattle.requests.proofs.run.signed.Goals as goal

pub returns : goal.returns
returns c = signed_cast c.cast_signed.ensures (omega arith) (omega arith)
