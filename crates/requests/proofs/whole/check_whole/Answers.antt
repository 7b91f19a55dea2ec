use Rattle.requests.specs.Requests.{last_of}
use Rattle.requests.proofs.There.{last_whole, argument_whole, check_there}
use Rattle.requests.proofs.whole.check_whole.Goals as goal

pub unwrap-requires : goal.unwrap-requires
unfolding last_of
unwrap-requires c = argument_whole _ (last_whole c.requires) c.store_asked.ensures

pub returns : goal.returns
returns c = check_there (rw c.unwrap.ensures at c.store_asked.ensures)
