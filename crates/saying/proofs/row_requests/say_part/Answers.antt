use borrow.Author.Rules.{rules}
use native.Mathlib.Omega.{arith}
use mathlib.Core.Path.{sym}
use lib.Seq.{length-take-le}
use Rattle.saying.proofs.row_requests.say_part.Goals as goal

pub slice_bounds-part_run-end-2 : goal.slice_bounds-part_run-end-2
slice_bounds-part_run-end-2 c = sym (length-take-le _ _ (omega arith))

pub part_run-r-requires : goal.part_run-r-requires
part_run-r-requires c = (search rules, length-take-le _ _ (omega arith))
