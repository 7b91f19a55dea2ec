-- The test is of the numbers themselves.
use borrow.Author.Rules.{rules}
use Rattle.counts.proofs.Reading.{zero_fits, first_given, second_given}
use Rattle.counts.specs.Signed.{chosen}
use Rattle.counts.proofs.operations.choose.Goals as goal

pub returns-then-a-gt0 : goal.returns-then-a-gt0
unfolding chosen
returns-then-a-gt0 c = let f = c.ranges in (first_given zero_fits f.a c.args.c f.b c.if-a-gt0.true, search rules)

pub returns : goal.returns
unfolding chosen
returns c = let f = c.ranges in (second_given zero_fits f.a c.args.b f.c c.if-a-gt0.false, search rules)
