use Rattle.requests.specs.Requests.{last_of}
use Rattle.requests.proofs.There.{last_whole, argument_whole, before_place, before_steps, reader_there}
use Rattle.requests.proofs.whole.reader_whole.Goals as goal

pub unwrap-requires : goal.unwrap-requires
unfolding last_of
unwrap-requires c = argument_whole _ (before_place _ (before_steps _ (last_whole c.requires))) c.reader_asked-read.ensures.bundle

pub unwrap-requires-2 : goal.unwrap-requires-2
unfolding last_of
unwrap-requires-2 c = argument_whole _ (before_steps _ (last_whole c.requires)) c.reader_asked-read.ensures.place

pub unwrap-requires-3 : goal.unwrap-requires-3
unfolding last_of
unwrap-requires-3 c = argument_whole _ (last_whole c.requires) c.reader_asked-read.ensures.steps

pub returns : goal.returns
returns c = reader_there (rw c.unwrap.ensures at c.reader_asked-read.ensures.bundle) (rw c.unwrap-2.ensures at c.reader_asked-read.ensures.place) (rw c.unwrap-3.ensures at c.reader_asked-read.ensures.steps)
