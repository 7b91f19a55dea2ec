-- A reader that does not stay has moved on, and never past the bundle's end: the measure is what is before it.
use Rattle.bundle.proofs.Showing.{moves_less}
use Rattle.bundleruns.proofs.read.Goals as goal

pub loop-at-smaller : goal.loop-at-smaller
loop-at-smaller c = search moves_less
