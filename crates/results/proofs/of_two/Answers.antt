-- An arm for each operation on two inputs.
use borrow.Author.Rules.{rules}
use Rattle.results.proofs.Arms.{two_arm, two_rest}
use Rattle.results.specs.Parts.{of_two}
use Rattle.results.proofs.of_two.Goals as goal

pub returns-in-3 : goal.returns-in-3
unfolding of_two
returns-in-3 c = let f = c.ranges in (two_arm f.a f.b 3 c.in-3.is c.difference.ensures, search rules)

pub returns-in-4 : goal.returns-in-4
unfolding of_two
returns-in-4 c = let f = c.ranges in (two_arm f.a f.b 4 c.in-4.is c.sum.ensures, search rules)

pub returns-in-8 : goal.returns-in-8
unfolding of_two
returns-in-8 c = let f = c.ranges in (two_arm f.a f.b 8 c.in-8.is c.greater.ensures, search rules)

pub returns-in-9 : goal.returns-in-9
unfolding of_two
returns-in-9 c = let f = c.ranges in (two_arm f.a f.b 9 c.in-9.is c.lesser.ensures, search rules)

pub returns-in_default : goal.returns-in_default
returns-in_default c = let f = c.ranges in let n = c.in_default.in_default-own.rest in (two_rest f.a f.b c.args.operation n.0.0.0.1 n.0.0.1 n.0.1 n.1, search rules)
