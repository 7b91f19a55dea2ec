-- The places before have been visited.
use native.Mathlib.Omega.{arith}
use mathlib.Core.Path.{refl, ◌∙◌}
use Rattle.walker.proofs.Visits.{walkable_few, walk_begin, walk_more, walk_done}
use Rattle.walker.proofs.walk_from.Goals as goal

pub overflow_cast-queue : goal.overflow_cast-queue
overflow_cast-queue c = let asked = c.requires in omega (arith, asked.1, walkable_few _ _ _ asked.0)

pub loop-k-init : goal.loop-k-init
loop-k-init c =
    let args = c.args in
    let asked = c.requires in
    (walk_begin _ _ _ _ args.queue.now args.marks.now asked.1 asked.2 asked.3 (walkable_few _ _ _ asked.0), refl, refl)

pub loop-k-preserved : goal.loop-k-preserved
loop-k-preserved c =
    let more = c.visit_row-filled in
    let held = c.loop-k.invariant in
    (walk_more _ _ _ _ _ _ _ _ held.0 _ _ _ more.ensures, more.auto.queue ∙ held.1, more.auto.marks ∙ held.2)

pub returns : goal.returns
returns c = search walk_done
