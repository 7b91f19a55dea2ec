use Rattle.requests.specs.Requests.{last_of}
use Rattle.requests.proofs.There.{last_whole, argument_whole, one_run_there}
use Rattle.requests.proofs.whole.sheet_whole.Goals as goal

pub unwrap-requires : goal.unwrap-requires
unfolding last_of
unwrap-requires c = argument_whole _ (last_whole c.requires) c.bytes_asked.ensures

pub returns : goal.returns
returns c = one_run_there (rw c.unwrap.ensures at c.bytes_asked.ensures)
