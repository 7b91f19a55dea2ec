-- No jump so far is a wire.
use Rattle.wiring.proofs.Ending.{ended_none, ended_placed, ended_row, ended_some, ended_more, ended_all}
use Rattle.wiring.proofs.ends.all_end.Goals as goal

pub loop-jump-init : goal.loop-jump-init
loop-jump-init c = search ended_none

pub astray-requires-clause-placed : goal.astray-requires-clause-placed
astray-requires-clause-placed c = search ended_placed

pub astray-requires-clause-of_sheet : goal.astray-requires-clause-of_sheet
astray-requires-clause-of_sheet c = search ended_row

pub returns-then-astray : goal.returns-then-astray
returns-then-astray c = search ended_some

pub loop-jump-preserved : goal.loop-jump-preserved
loop-jump-preserved c = search ended_more

pub returns : goal.returns
returns c = search ended_all
