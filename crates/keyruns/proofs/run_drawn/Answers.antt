-- The front of the bytes is as long as was asked.
use native.Mathlib.Omega.{arith}
use mathlib.Core.Path.{sym}
use lib.Seq.{length-take-le}
use Rattle.keyruns.proofs.run_drawn.Goals as goal

pub slice_bounds-run_loop-end : goal.slice_bounds-run_loop-end
slice_bounds-run_loop-end c = sym (length-take-le _ _ (omega arith))
