-- The front of the sheet.
use borrow.Author.Rules.{rules}
use mathlib.Core.Path.{sym}
use lib.Seq.{length-take-le}
use Rattle.converter.proofs.Converting.{sheet_refused, fronted_few, fronted_opened}
use Rattle.converter.proofs.convert_with.Goals as goal

pub slice_bounds-convert_fronted-end : goal.slice_bounds-convert_fronted-end
slice_bounds-convert_fronted-end c = search fronted_few

pub slice_bounds-convert_fronted-end-in-Ok : goal.slice_bounds-convert_fronted-end-in-Ok
slice_bounds-convert_fronted-end-in-Ok c = sym (length-take-le _ _ (search fronted_few))

pub convert_fronted-requires : goal.convert_fronted-requires
convert_fronted-requires c = (search fronted_opened, search rules)

pub returns-in-Err : goal.returns-in-Err
returns-in-Err c = rw c.refused.ensures (search sheet_refused)
