use Rattle.std.proofs.Common.{◌-◌, length}
use Rattle.bundleruns.proofs.read.Given as goal

abbrev pub decreases-loop-at : goal.decreases-loop-at
decreases-loop-at l = length l.bundle - l.at
