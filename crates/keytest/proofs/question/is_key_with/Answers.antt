-- The front part of the table says where each row starts.
use borrow.Author.Rules.{rules}
use mathlib.Core.Path.{sym}
use lib.Seq.{length-take-le}
use Rattle.rows.proofs.Tabling.{rows_fit, rows_end, rows_low, rows_tabled}
use Rattle.keytest.proofs.question.is_key_with.Goals as goal

pub fill_places-requires : goal.fill_places-requires
fill_places-requires c = (search rows_end, search rows_low, search rows_fit)

pub slice_bounds-is_key_placed-end-2 : goal.slice_bounds-is_key_placed-end-2
slice_bounds-is_key_placed-end-2 c = sym (length-take-le _ _ (search rules))

pub is_key_placed-requires : goal.is_key_placed-requires
is_key_placed-requires c = (search rows_tabled, search rules, search rules)
