use Rattle.requests.specs.Requests.{last_of}
use Rattle.requests.proofs.There.{last_whole, argument_whole, before_numbers, mend_there}
use Rattle.requests.proofs.whole.mend_whole.Goals as goal

pub unwrap-requires : goal.unwrap-requires
unfolding last_of
unwrap-requires c = argument_whole _ (before_numbers _ (last_whole c.requires)) c.mend_asked-read.ensures.store

pub unwrap-requires-2 : goal.unwrap-requires-2
unfolding last_of
unwrap-requires-2 c = argument_whole _ (last_whole c.requires) c.mend_asked-read.ensures.list

pub returns : goal.returns
returns c = mend_there (rw c.unwrap.ensures at c.mend_asked-read.ensures.store) (rw c.unwrap-2.ensures at c.mend_asked-read.ensures.list)
