-- The walk meets exactly the rows that some path reaches.
use borrow.Author.Rules.{rules}
use Rattle.checking.proofs.Looking.{sound_walkable, sound_queue}
use Rattle.parts.proofs.Parting.{leads_says}
use Rattle.parts.proofs.leads_with.Goals as goal

pub walk_from-filled-requires : goal.walk_from-filled-requires
walk_from-filled-requires c = (search sound_walkable, search rules, search sound_queue, search sound_queue)

pub returns : goal.returns
returns c = search leads_says
