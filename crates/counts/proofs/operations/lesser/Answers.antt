-- The test is of the numbers themselves.
use borrow.Author.Rules.{rules}
use Rattle.counts.proofs.Reading.{first_given, second_given}
use Rattle.counts.specs.Signed.{lesser}
use Rattle.counts.proofs.operations.lesser.Goals as goal

pub returns-then-b-a : goal.returns-then-b-a
unfolding lesser
returns-then-b-a c = let f = c.ranges in (first_given f.b f.a c.args.a f.b c.if-b-a.true, search rules)

pub returns : goal.returns
unfolding lesser
returns c = let f = c.ranges in (second_given f.b f.a c.args.b f.a c.if-b-a.false, search rules)
