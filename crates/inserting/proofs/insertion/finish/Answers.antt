-- The trees are held against the capacity before anything is written.
use Rattle.inserting.proofs.Backing.{total_stored, total_few, to_write, says_full, says_written}
use Rattle.inserting.proofs.insertion.finish.Goals as goal

pub returns-then-not-has_room : goal.returns-then-not-has_room
returns-then-not-has_room c = rw c.refused.ensures (search says_full)

pub write_all-requires : goal.write_all-requires
write_all-requires c = search to_write

pub added-requires : goal.added-requires
added-requires c = (search total_stored, search total_few)

pub returns : goal.returns
returns c = search says_written
