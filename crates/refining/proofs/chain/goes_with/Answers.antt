-- The old class is compared first, then the signature.
use Rattle.refining.proofs.Walks.{other_class, one_class}
use Rattle.refining.proofs.chain.goes_with.Goals as goal

pub returns-then-entry-old : goal.returns-then-entry-old
returns-then-entry-old c = search other_class

pub returns : goal.returns
returns c = search one_class
