-- The walk.
use borrow.Author.Rules.{rules}
use Rattle.checking.proofs.Looking.{sound_walkable, sound_queue}
use Rattle.keying.proofs.write_from.Goals as goal

pub walk_from-filled-requires : goal.walk_from-filled-requires
walk_from-filled-requires c = (search sound_walkable, search rules, search sound_queue, search sound_queue)
