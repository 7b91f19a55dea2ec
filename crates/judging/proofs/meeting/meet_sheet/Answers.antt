-- The sheet's rows so far have been looked at.
use borrow.Author.Rules.{rules}
use Rattle.std.proofs.lemmas.Result.{err_from_is_err_and}
use Rattle.judging.proofs.Visiting.{sheet_none, sheet_starting, sheet_start, sheet_stops, sheet_more, sheet_done}
use Rattle.judging.proofs.meeting.meet_sheet.Goals as goal

pub loop-u-init : goal.loop-u-init
loop-u-init c = (search sheet_none, search rules)

pub meet_row-requires-clause-starting : goal.meet_row-requires-clause-starting
meet_row-requires-clause-starting c = search sheet_starting

pub meet_row-requires-clause-u_bound : goal.meet_row-requires-clause-u_bound
meet_row-requires-clause-u_bound c = (search rules, search sheet_start)

pub returns-in_err-met : goal.returns-in_err-met
returns-in_err-met c =
    let p = err_from_is_err_and c.from_residual.result c.from_residual.ensures.1 in
    rw (p.1, p.2) (search (sheet_stops, c.in_err-met.ensures))

pub loop-u-preserved : goal.loop-u-preserved
loop-u-preserved c = (search (sheet_more, c.in_ok-met.ensures), search rules)

pub returns : goal.returns
returns c = search sheet_done
