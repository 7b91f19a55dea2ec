-- An arm for each operation on inputs, and the rest is on two.
use borrow.Author.Rules.{rules}
use Rattle.results.proofs.Arms.{inputs_arm, inputs_rest}
use Rattle.results.specs.Parts.{of_inputs}
use Rattle.results.proofs.of_inputs.Goals as goal

pub returns-in-5 : goal.returns-in-5
unfolding of_inputs
returns-in-5 c = let f = c.ranges in (inputs_arm f.a f.b f.c f.d 5 c.args.setting c.in-5.is c.scale.ensures, search rules)

pub returns-in-10 : goal.returns-in-10
unfolding of_inputs
returns-in-10 c = let f = c.ranges in (inputs_arm f.a f.b f.c f.d 10 c.args.setting c.in-10.is c.choose.ensures, search rules)

pub returns-in-11 : goal.returns-in-11
unfolding of_inputs
returns-in-11 c = let f = c.ranges in (inputs_arm f.a f.b f.c f.d 11 c.args.setting c.in-11.is c.mean_of_four.ensures, search rules)

pub returns-in-12 : goal.returns-in-12
unfolding of_inputs
returns-in-12 c = let f = c.ranges in (inputs_arm f.a f.b f.c f.d 12 c.args.setting c.in-12.is c.negate.ensures, search rules)

pub returns-in_default : goal.returns-in_default
returns-in_default c = let f = c.ranges in let n = c.in_default.in_default-own.rest in (inputs_rest f.a f.b f.c f.d c.args.operation c.args.setting n.0.0.0.1 n.0.0.1 n.0.1 n.1 c.of_two.ensures, search rules)
