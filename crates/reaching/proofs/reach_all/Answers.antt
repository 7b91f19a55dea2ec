-- The rows before have been looked at.
use borrow.Author.Rules.{rules}
use Rattle.reaching.proofs.Reaching.{reach_none, reach_more, reach_done}
use Rattle.reaching.proofs.reach_all.Goals as goal

pub loop-k-init : goal.loop-k-init
loop-k-init c = (search reach_none, search rules, search rules)

pub visit-filled-requires-clause-marked : goal.visit-filled-requires-clause-marked
visit-filled-requires-clause-marked c = (search rules, search rules)

pub loop-k-preserved : goal.loop-k-preserved
loop-k-preserved c = (search reach_more, search rules, search rules)

pub returns : goal.returns
returns c = search reach_done
