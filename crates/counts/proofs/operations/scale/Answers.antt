-- The product fits 64 bits, and so does its quotient.
use borrow.Author.Rules.{rules}
use Rattle.counts.proofs.Clamping.{scale_asked, scale_given}
use Rattle.counts.proofs.operations.scale.Goals as goal

pub times-requires : goal.times-requires
times-requires c = search scale_asked

pub returns : goal.returns
returns c = (search scale_given, search rules)
