-- The inputs so far are met.
use borrow.Author.Rules.{rules}
use Rattle.judging.proofs.Inputs.{these_none, these_room, these_queued, these_askable, these_more, these_done}
use Rattle.judging.proofs.meeting.meet_inputs.Goals as goal

pub loop-j-init : goal.loop-j-init
loop-j-init c = (search these_none, search rules)

pub bounds-inputs-j : goal.bounds-inputs-j
bounds-inputs-j c = search these_room

pub meet-met-requires : goal.meet-met-requires
meet-met-requires c = (search these_queued, search these_askable)

pub loop-j-preserved : goal.loop-j-preserved
loop-j-preserved c = (search these_more, search rules)

pub returns : goal.returns
returns c = search these_done
