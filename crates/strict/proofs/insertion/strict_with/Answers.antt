-- Number 2 comes before the numbers of the sheet.
use borrow.Author.Rules.{rules}
use mathlib.Core.Path.{sym}
use lib.Seq.{length-take-le}
use Rattle.inserting.proofs.Inserting.{fronted_few, fronted_tabled, fronted_own, fronted_wired}
use Rattle.strict.proofs.Strictly.{strict_front}
use Rattle.strict.proofs.insertion.strict_with.Goals as goal

pub slice_bounds-strict_rows-end : goal.slice_bounds-strict_rows-end
slice_bounds-strict_rows-end c = search fronted_few

pub slice_bounds-strict_rows-end-in-Ok : goal.slice_bounds-strict_rows-end-in-Ok
slice_bounds-strict_rows-end-in-Ok c = sym (length-take-le _ _ (search fronted_few))

pub strict_rows-requires-clause-tabled : goal.strict_rows-requires-clause-tabled
strict_rows-requires-clause-tabled c = search fronted_tabled

pub strict_rows-requires-clause-fact : goal.strict_rows-requires-clause-fact
strict_rows-requires-clause-fact c = (search fronted_own, search fronted_wired, search rules)

pub returns-in-Err : goal.returns-in-Err
returns-in-Err c = search strict_front
