use Rattle.requests.specs.Requests.{last_of}
use Rattle.requests.proofs.There.{last_whole, argument_whole, before_sheet, before_list, insert_there}
use Rattle.requests.proofs.whole.insert_whole.Goals as goal

pub unwrap-requires : goal.unwrap-requires
unfolding last_of
unwrap-requires c = argument_whole _ (before_sheet _ (before_list _ (last_whole c.requires))) c.insert_asked-read.ensures.store

pub unwrap-requires-2 : goal.unwrap-requires-2
unfolding last_of
unwrap-requires-2 c = argument_whole _ (before_list _ (last_whole c.requires)) c.insert_asked-read.ensures.sheet

pub unwrap-requires-3 : goal.unwrap-requires-3
unfolding last_of
unwrap-requires-3 c = argument_whole _ (last_whole c.requires) c.insert_asked-read.ensures.list

pub returns : goal.returns
returns c = insert_there (rw c.unwrap.ensures at c.insert_asked-read.ensures.store) (rw c.unwrap-2.ensures at c.insert_asked-read.ensures.sheet) (rw c.unwrap-3.ensures at c.insert_asked-read.ensures.list)
