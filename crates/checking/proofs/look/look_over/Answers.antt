-- The shape first, then the trees.
use Rattle.std.proofs.lemmas.Result.{err_from_is_err_and}
use Rattle.checking.proofs.Checking.{shape_shaped, shape_counted}
use Rattle.checking.proofs.Looking.{look_flaw, look_sound, look_twice}
use Rattle.checking.proofs.look.look_over.Goals as goal

pub distinct-requires : goal.distinct-requires
distinct-requires c = (search (shape_shaped, c.in_ok-rows.was), search (shape_counted, c.in_ok-rows.was))

pub returns-in_err-rows : goal.returns-in_err-rows
returns-in_err-rows c =
    let e = err_from_is_err_and c.from_residual.result c.from_residual.ensures.1 in
    rw (e.1, e.2) (search (look_flaw, c.in_err-rows.was))

pub returns-then-distinct : goal.returns-then-distinct
returns-then-distinct c = search (look_sound, c.in_ok-rows.was)

pub returns-else-distinct : goal.returns-else-distinct
returns-else-distinct c = search (look_twice, c.in_ok-rows.was)
