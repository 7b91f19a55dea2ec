-- Number 2 comes before the numbers of the sheet.
use borrow.Author.Rules.{rules}
use mathlib.Core.Path.{sym}
use lib.Seq.{length-take-le}
use Rattle.inserting.proofs.Inserting.{refused_sheet, fronted_few, fronted_tabled, fronted_own, fronted_wired}
use Rattle.inserting.proofs.insertion.insert_with.Goals as goal

pub slice_bounds-insert_rows-end : goal.slice_bounds-insert_rows-end
slice_bounds-insert_rows-end c = search fronted_few

pub slice_bounds-insert_rows-end-in-Ok : goal.slice_bounds-insert_rows-end-in-Ok
slice_bounds-insert_rows-end-in-Ok c = sym (length-take-le _ _ (search fronted_few))

pub insert_rows-requires-clause-tabled : goal.insert_rows-requires-clause-tabled
insert_rows-requires-clause-tabled c = search fronted_tabled

pub insert_rows-requires-clause-fact : goal.insert_rows-requires-clause-fact
insert_rows-requires-clause-fact c = (search fronted_own, search fronted_wired, search rules)

pub returns-in-Err : goal.returns-in-Err
returns-in-Err c = search refused_sheet
