use borrow.Author.Rules.{rules}
use native.Mathlib.Omega.{arith}
use mathlib.Core.Path.{sym}
use lib.Seq.{length-take-le}
use Rattle.saying.proofs.run_request.say_run.Goals as goal

pub slice_bounds-run_line-end-2 : goal.slice_bounds-run_line-end-2
slice_bounds-run_line-end-2 c = sym (length-take-le _ _ (omega arith))

pub slice_bounds-run_line-end-4 : goal.slice_bounds-run_line-end-4
slice_bounds-run_line-end-4 c = sym (length-take-le _ _ (omega arith))

pub slice_bounds-run_line-end-6 : goal.slice_bounds-run_line-end-6
slice_bounds-run_line-end-6 c = sym (length-take-le _ _ (omega arith))

pub run_line-requires : goal.run_line-requires
run_line-requires c = (search rules, length-take-le _ _ (omega arith), length-take-le _ _ (omega arith), length-take-le _ _ (omega arith))
