-- A sound store needs no sorting of its own.
use borrow.Author.Rules.{rules}
use mathlib.Core.Path.{sym}
use lib.Seq.{length-take-le}
use Rattle.inserting.proofs.Inserting.{fronted_few, fronted_tabled, fronted_own, fronted_wired}
use Rattle.inserting.proofs.Sounding.{sound_refused, sound_empty}
use Rattle.inserting.proofs.insertion.insert_known.Goals as goal

pub slice_bounds-insert_rows-end : goal.slice_bounds-insert_rows-end
slice_bounds-insert_rows-end c = search fronted_few

pub slice_bounds-insert_rows-end-else-rows-eq0 : goal.slice_bounds-insert_rows-end-else-rows-eq0
slice_bounds-insert_rows-end-else-rows-eq0 c = sym (length-take-le _ _ (search fronted_few))

pub insert_rows-requires-clause-tabled : goal.insert_rows-requires-clause-tabled
insert_rows-requires-clause-tabled c = search fronted_tabled

pub insert_rows-requires-clause-fact : goal.insert_rows-requires-clause-fact
insert_rows-requires-clause-fact c = (search fronted_own, search fronted_wired, search rules)

pub returns-in-Err : goal.returns-in-Err
returns-in-Err c = rw c.refused.ensures (search sound_refused)

pub returns-then-rows-eq0 : goal.returns-then-rows-eq0
returns-then-rows-eq0 c = search sound_empty
