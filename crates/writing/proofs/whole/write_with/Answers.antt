-- The rows are numbered first, and everything that is written follows the numbers.
use borrow.Author.Rules.{rules}
use Rattle.writing.proofs.Counts.{write_few, write_room, written_counted}
use Rattle.writing.proofs.whole.write_with.Goals as goal

pub number_rows-count-requires : goal.number_rows-count-requires
number_rows-count-requires c = (search write_few, search rules, search write_room)

pub write_store-requires-clause-viewed : goal.write_store-requires-clause-viewed
write_store-requires-clause-viewed c =
    let p = c.requires in
    let n = c.number_rows-count.ensures in
    p.0.view

pub write_store-requires-clause-counted : goal.write_store-requires-clause-counted
write_store-requires-clause-counted c =
    let p = c.requires in
    let n = c.number_rows-count.ensures in
    written_counted _ _ _ _ _ _ _ _ _ p.0 p.1 n.0

pub write_store-requires-clause-roomy : goal.write_store-requires-clause-roomy
write_store-requires-clause-roomy c =
    let p = c.requires in
    let n = c.number_rows-count.ensures in
    p.0.roomy

pub write_store-requires-clause-store_nonzero : goal.write_store-requires-clause-store_nonzero
write_store-requires-clause-store_nonzero c =
    let p = c.requires in
    let n = c.number_rows-count.ensures in
    (p.0.words, n.1)

pub put_answers-requires : goal.put_answers-requires
put_answers-requires c =
    let p = c.requires in
    let n = c.number_rows-count.ensures in
    (written_counted _ _ _ _ _ _ _ _ _ p.0 p.1 n.0, p.0.answered)
