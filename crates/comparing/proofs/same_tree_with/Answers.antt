-- Walks of different lengths are different trees; of one length, their rows decide.
use borrow.Author.Rules.{rules}
use Rattle.checking.proofs.Looking.{sound_walkable, sound_queue}
use Rattle.comparing.proofs.Trees.{sound_part, sound_rows, sound_rows_too, sound_decide}
use Rattle.comparing.proofs.same_tree_with.Goals as goal

pub walk_from-filled-requires : goal.walk_from-filled-requires
walk_from-filled-requires c = (search sound_walkable, search rules, search sound_queue, search sound_queue)

pub walk_from-met-requires : goal.walk_from-met-requires
walk_from-met-requires c = (search sound_walkable, search rules, search sound_queue, search sound_queue)

pub returns-then-filled-met : goal.returns-then-filled-met
returns-then-filled-met c = search sound_part

pub same_rows-requires : goal.same_rows-requires
same_rows-requires c =
    let one = c.if-filled-met in
    let walked = c.walk_from-met.ensures in
    let given = c.requires.sound_store in
    (search sound_rows, sound_rows_too _ _ _ _ _ _ given.2 given.3 walked _ (search one))

pub returns : goal.returns
returns c = search sound_decide
