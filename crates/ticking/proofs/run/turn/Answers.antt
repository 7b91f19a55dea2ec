-- The array that is written at an even tick is read at the odd one after it.
use Rattle.ticking.proofs.Runs.{turn_even, turn_odd}
use Rattle.ticking.proofs.run.turn.Goals as goal

pub returns-then-t-eq0 : goal.returns-then-t-eq0
returns-then-t-eq0 c = search turn_even

pub returns : goal.returns
returns c = search turn_odd
