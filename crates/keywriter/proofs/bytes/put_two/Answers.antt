-- The high byte, and then the low one.
use native.Mathlib.Omega.{arith}
use lib.ListN.{length-set}
use Rattle.keywriter.proofs.Writes.{wrote_two}
use Rattle.keywriter.proofs.bytes.put_two.Goals as goal

pub bounds-key-at-2 : goal.bounds-key-at-2
bounds-key-at-2 c = simp length-set (omega arith)

pub returns : goal.returns
returns c = search wrote_two
