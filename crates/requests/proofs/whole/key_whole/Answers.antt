use Rattle.requests.specs.Requests.{last_of}
use Rattle.requests.proofs.There.{last_whole, argument_whole, before_row, before_buffer, key_there}
use Rattle.requests.proofs.whole.key_whole.Goals as goal

pub unwrap-requires : goal.unwrap-requires
unfolding last_of
unwrap-requires c = argument_whole _ (before_row _ (before_buffer _ (last_whole c.requires))) c.key_asked-read.ensures.store

pub unwrap-requires-2 : goal.unwrap-requires-2
unfolding last_of
unwrap-requires-2 c = argument_whole _ (before_buffer _ (last_whole c.requires)) c.key_asked-read.ensures.row

pub unwrap-requires-3 : goal.unwrap-requires-3
unfolding last_of
unwrap-requires-3 c = argument_whole _ (last_whole c.requires) c.key_asked-read.ensures.buffer

pub returns : goal.returns
returns c = key_there (rw c.unwrap.ensures at c.key_asked-read.ensures.store) (rw c.unwrap-2.ensures at c.key_asked-read.ensures.row) (rw c.unwrap-3.ensures at c.key_asked-read.ensures.buffer)
