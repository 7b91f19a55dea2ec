-- Store rows reach only store rows, so that their classes are the store's own.
use Rattle.inserting.proofs.Inserting.{spotted_view, spotted_fits, tabled_rows, view_twice, view_backed}
use Rattle.inserting.proofs.insertion.insert_view.Goals as goal

pub sort-requires : goal.sort-requires
sort-requires c = (search spotted_view, search spotted_fits)

pub all_own-requires : goal.all_own-requires
all_own-requires c = search tabled_rows

pub returns-then-not-all_own : goal.returns-then-not-all_own
returns-then-not-all_own c = rw c.refused.ensures (search view_twice)

pub back-requires : goal.back-requires
back-requires c =
    let asked = c.requires in
    view_backed _ _ _ _ asked.0 _ _ c.sort.ensures _ c.all_own.ensures c.if-not-all_own.false-raw asked.1
