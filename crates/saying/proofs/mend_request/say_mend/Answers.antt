use borrow.Author.Rules.{rules}
use native.Mathlib.Omega.{arith}
use mathlib.Core.Path.{sym}
use lib.Seq.{length-take-le}
use Rattle.saying.proofs.mend_request.say_mend.Goals as goal

pub slice_bounds-mend_line-end-2 : goal.slice_bounds-mend_line-end-2
slice_bounds-mend_line-end-2 c = sym (length-take-le _ _ (omega arith))

pub slice_bounds-mend_line-end-4 : goal.slice_bounds-mend_line-end-4
slice_bounds-mend_line-end-4 c = sym (length-take-le _ _ (omega arith))

pub mend_line-requires : goal.mend_line-requires
mend_line-requires c = (search rules, length-take-le _ _ (omega arith), length-take-le _ _ (omega arith))
