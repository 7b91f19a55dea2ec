use borrow.Author.Rules.{rules}
use native.Mathlib.Omega.{arith}
use mathlib.Core.Path.{sym}
use lib.Seq.{length-take-le}
use Rattle.saying.proofs.store_requests.say_insert.Goals as goal

pub slice_bounds-insert_line-end-2 : goal.slice_bounds-insert_line-end-2
slice_bounds-insert_line-end-2 c = sym (length-take-le _ _ (omega arith))

pub slice_bounds-insert_line-end-4 : goal.slice_bounds-insert_line-end-4
slice_bounds-insert_line-end-4 c = sym (length-take-le _ _ (omega arith))

pub insert_line-requires : goal.insert_line-requires
insert_line-requires c = (search rules, length-take-le _ _ (omega arith), length-take-le _ _ (omega arith))
