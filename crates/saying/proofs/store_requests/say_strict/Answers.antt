use borrow.Author.Rules.{rules}
use native.Mathlib.Omega.{arith}
use mathlib.Core.Path.{sym}
use lib.Seq.{length-take-le}
use Rattle.saying.proofs.store_requests.say_strict.Goals as goal

pub slice_bounds-strict_line-end-2 : goal.slice_bounds-strict_line-end-2
slice_bounds-strict_line-end-2 c = sym (length-take-le _ _ (omega arith))

pub slice_bounds-strict_line-end-4 : goal.slice_bounds-strict_line-end-4
slice_bounds-strict_line-end-4 c = sym (length-take-le _ _ (omega arith))

pub strict_line-requires : goal.strict_line-requires
strict_line-requires c = (search rules, length-take-le _ _ (omega arith), length-take-le _ _ (omega arith))
