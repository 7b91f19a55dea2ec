-- Before the starts, among them, or after them.
use Rattle.judging.proofs.Marking.{state_before, state_start, state_after}
use Rattle.judging.proofs.starts.start_state.Goals as goal

pub returns-then-u-from : goal.returns-then-u-from
returns-then-u-from c = search state_before

pub returns-then-u-to : goal.returns-then-u-to
returns-then-u-to c = search state_start

pub returns : goal.returns
returns c = search state_after
