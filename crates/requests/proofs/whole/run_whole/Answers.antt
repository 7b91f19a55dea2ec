use Rattle.requests.specs.Requests.{last_of}
use Rattle.requests.proofs.There.{last_whole, argument_whole, before_row, before_channels, before_values, before_output, run_there}
use Rattle.requests.proofs.whole.run_whole.Goals as goal

pub unwrap-requires : goal.unwrap-requires
unfolding last_of
unwrap-requires c = argument_whole _ (before_row _ (before_channels _ (before_values _ (before_output _ (last_whole c.requires))))) c.run_asked-read.ensures.store

pub unwrap-requires-2 : goal.unwrap-requires-2
unfolding last_of
unwrap-requires-2 c = argument_whole _ (before_channels _ (before_values _ (before_output _ (last_whole c.requires)))) c.run_asked-read.ensures.row

pub unwrap-requires-3 : goal.unwrap-requires-3
unfolding last_of
unwrap-requires-3 c = argument_whole _ (before_values _ (before_output _ (last_whole c.requires))) c.run_asked-read.ensures.channels

pub unwrap-requires-4 : goal.unwrap-requires-4
unfolding last_of
unwrap-requires-4 c = argument_whole _ (before_output _ (last_whole c.requires)) c.run_asked-read.ensures.values

pub unwrap-requires-5 : goal.unwrap-requires-5
unfolding last_of
unwrap-requires-5 c = argument_whole _ (last_whole c.requires) c.run_asked-read.ensures.output

pub returns : goal.returns
returns c = run_there (rw c.unwrap.ensures at c.run_asked-read.ensures.store) (rw c.unwrap-2.ensures at c.run_asked-read.ensures.row) (rw c.unwrap-3.ensures at c.run_asked-read.ensures.channels) (rw c.unwrap-4.ensures at c.run_asked-read.ensures.values) (rw c.unwrap-5.ensures at c.run_asked-read.ensures.output)
