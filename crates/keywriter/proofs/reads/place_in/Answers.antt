-- A queued row's mark is its place.
use Rattle.keywriter.proofs.Places.{mark_there, mark_place, mark_low}
use Rattle.keywriter.proofs.reads.place_in.Goals as goal

pub entry-requires : goal.entry-requires
entry-requires c = search mark_there

pub returns : goal.returns
returns c = (search mark_place, search mark_low)
