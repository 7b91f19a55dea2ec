-- The lowest row of its old class stays; any other goes where it finds its place.
use Rattle.std.proofs.Common.{rules}
use Rattle.refining.proofs.Walks.{placed_first, is_later, head_small, bucket_below, head_inside, placed_with, placed_new}
use Rattle.refining.proofs.round.place_row.Goals as goal

pub returns-then-old-u : goal.returns-then-old-u
returns-then-old-u c = search placed_first

pub find_head-requires-clause-later : goal.find_head-requires-clause-later
find_head-requires-clause-later c = search is_later

pub put_entry-requires-in-With : goal.put_entry-requires-in-With
put_entry-requires-in-With c = (search rules, search head_small)

pub begin-requires : goal.begin-requires
begin-requires c = (search rules, search rules, search rules, search bucket_below, search head_inside)

pub returns-in-With : goal.returns-in-With
returns-in-With c = search placed_with

pub returns-in-New : goal.returns-in-New
returns-in-New c = search placed_new
