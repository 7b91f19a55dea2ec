-- The test is of the numbers themselves.
use borrow.Author.Rules.{rules}
use Rattle.counts.proofs.Reading.{first_given, second_given}
use Rattle.counts.specs.Signed.{greater}
use Rattle.counts.proofs.operations.greater.Goals as goal

pub returns-then-a-b : goal.returns-then-a-b
unfolding greater
returns-then-a-b c = let f = c.ranges in (first_given f.a f.b c.args.a f.b c.if-a-b.true, search rules)

pub returns : goal.returns
unfolding greater
returns c = let f = c.ranges in (second_given f.a f.b c.args.b f.a c.if-a-b.false, search rules)
