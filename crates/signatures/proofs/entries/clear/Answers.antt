-- The front is as many zeros.
use Rattle.signatures.proofs.Zeros.{cleared}
use Rattle.signatures.proofs.entries.clear.Goals as goal

pub returns : goal.returns
returns c = cleared _ _ _ c.requires (c.fill.ensures.after (λ y q. q))
