use Rattle.wiring.proofs.Ending.{EndedTo}
use Rattle.wiring.proofs.ends.all_end.Given as goal

abbrev pub invariant-loop-jump : goal.invariant-loop-jump
invariant-loop-jump l = EndedTo l.bytes l.table l.jumps l.jump-index
