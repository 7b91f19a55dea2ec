use borrow.Author.Rules.{rules}
use native.Mathlib.Omega.{arith}
use mathlib.Core.Path.{sym}
use lib.Seq.{length-take-le}
use Rattle.saying.proofs.store_requests.say_check.Goals as goal

pub slice_bounds-check_run-end-2 : goal.slice_bounds-check_run-end-2
slice_bounds-check_run-end-2 c = sym (length-take-le _ _ (omega arith))

pub check_run-number-requires : goal.check_run-number-requires
check_run-number-requires c = (search rules, length-take-le _ _ (omega arith))
