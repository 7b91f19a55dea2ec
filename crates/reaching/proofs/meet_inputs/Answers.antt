-- The inputs before have been met.
use borrow.Author.Rules.{rules}
use Rattle.reaching.proofs.Meeting.{these_begin, these_next, these_marked, these_done}
use Rattle.reaching.proofs.meet_inputs.Goals as goal

pub loop-j-init : goal.loop-j-init
loop-j-init c = (search these_begin, search rules, search rules, search rules)

pub meet_stored-met-requires : goal.meet_stored-met-requires
meet_stored-met-requires c = search these_marked

pub loop-j-preserved : goal.loop-j-preserved
loop-j-preserved c = (search these_next, search rules, search rules, search rules)

pub returns : goal.returns
returns c = search these_done
