use borrow.Author.Rules.{rules}
use native.Mathlib.Omega.{arith}
use mathlib.Core.Path.{sym}
use lib.Seq.{length-take-le}
use Rattle.saying.proofs.row_requests.say_compare.Goals as goal

pub slice_bounds-compare_runs-end-2 : goal.slice_bounds-compare_runs-end-2
slice_bounds-compare_runs-end-2 c = sym (length-take-le _ _ (omega arith))

pub slice_bounds-compare_runs-end-4 : goal.slice_bounds-compare_runs-end-4
slice_bounds-compare_runs-end-4 c = sym (length-take-le _ _ (omega arith))

pub compare_runs-r-requires : goal.compare_runs-r-requires
compare_runs-r-requires c = (search rules, length-take-le _ _ (omega arith), length-take-le _ _ (omega arith))
