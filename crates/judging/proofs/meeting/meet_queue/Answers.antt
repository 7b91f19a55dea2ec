-- The rows before place k have been looked at.
use borrow.Author.Rules.{rules}
use Rattle.std.proofs.lemmas.Result.{err_from_is_err_and}
use Rattle.judging.proofs.Visiting.{queue_none, queue_starting, queue_there, queue_row, queue_start, queue_stops, queue_more, queue_done}
use Rattle.judging.proofs.meeting.meet_queue.Goals as goal

pub loop-k-init : goal.loop-k-init
loop-k-init c = (search queue_none, search rules)

pub entry-u-requires : goal.entry-u-requires
entry-u-requires c = search queue_there

pub meet_row-requires-clause-starting : goal.meet_row-requires-clause-starting
meet_row-requires-clause-starting c = search queue_starting

pub meet_row-requires-clause-u_bound : goal.meet_row-requires-clause-u_bound
meet_row-requires-clause-u_bound c = (search queue_row, search queue_start)

pub returns-in_err-met : goal.returns-in_err-met
returns-in_err-met c =
    let p = err_from_is_err_and c.from_residual.result c.from_residual.ensures.1 in
    rw (p.1, p.2) (search (queue_stops, c.in_err-met.ensures))

pub loop-k-preserved : goal.loop-k-preserved
loop-k-preserved c = (search (queue_more, c.in_ok-met.ensures), search rules)

pub returns : goal.returns
returns c = search queue_done
