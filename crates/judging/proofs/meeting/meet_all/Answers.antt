-- The sheet's rows, and then those of the queue.
use Rattle.std.proofs.lemmas.Result.{err_from_is_err_and}
use Rattle.judging.proofs.Visiting.{both_stops, both_visited, both_done}
use Rattle.judging.proofs.meeting.meet_all.Goals as goal

pub returns-in_err-met : goal.returns-in_err-met
returns-in_err-met c =
    let p = err_from_is_err_and c.from_residual.result c.from_residual.ensures.1 in
    rw (p.1, p.2) (search (both_stops, c.in_err-met.ensures))

pub meet_queue-requires : goal.meet_queue-requires
meet_queue-requires c = search (both_visited, c.in_ok-met.ensures)

pub returns : goal.returns
returns c = search (both_done, c.in_ok-met.ensures)
