-- The inputs before have been met.
use borrow.Author.Rules.{rules}
use Rattle.walker.proofs.Visits.{visit_begin, visit_more, inputs_done}
use Rattle.walker.proofs.meet_inputs.Goals as goal

pub loop-j-init : goal.loop-j-init
loop-j-init c = (search visit_begin, search rules, search rules)

pub loop-j-preserved : goal.loop-j-preserved
loop-j-preserved c = (search visit_more, search rules, search rules)

pub returns : goal.returns
returns c = search inputs_done
