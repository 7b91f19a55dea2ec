-- The outputs of the ticks before are there, and the values of the last of them.
use borrow.Author.Rules.{rules}
use Rattle.running.specs.Run.{ticks}
use Rattle.ticking.proofs.Runs.{go_begin, row_in_use, go_more, go_done}
use Rattle.ticking.proofs.run.run_ticks.Goals as goal

pub loop-t-init : goal.loop-t-init
loop-t-init c = (search go_begin, search rules, search rules)

pub turn_at-x-requires-clause-lined : goal.turn_at-x-requires-clause-lined
unfolding ticks
turn_at-x-requires-clause-lined c = (search rules, search row_in_use, search rules, search rules)

pub turn_at-x-requires-clause-channels_nonzero : goal.turn_at-x-requires-clause-channels_nonzero
unfolding ticks
turn_at-x-requires-clause-channels_nonzero c = search rules

pub put_value-requires : goal.put_value-requires
unfolding ticks
put_value-requires c = search rules

pub loop-t-preserved : goal.loop-t-preserved
loop-t-preserved c = (search go_more, search rules, search rules)

pub returns : goal.returns
returns c = search go_done
