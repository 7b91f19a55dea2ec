-- An arm for what is not computed of inputs; the entries of the array are known to fit as they are read.
use borrow.Author.Rules.{rules}
use mathlib.Core.Path.{refl}
use Rattle.results.specs.Parts.{input_at}
use Rattle.running.specs.Results.{result_of}
use Rattle.results.proofs.Arms.{result_arm, result_rest}
use Rattle.results.proofs.result.Goals as goal

pub returns-in-1 : goal.returns-in-1
unfolding result_of
returns-in-1 c = let a = c.args in (result_arm a.setting a.channels.now a.held (input_at a.x) 1 c.in-1.is c.channel.ensures, search rules)

pub returns-in-2 : goal.returns-in-2
unfolding result_of
returns-in-2 c = let a = c.args in (result_arm a.setting a.channels.now a.held (input_at a.x) 2 c.in-2.is c.constant.ensures, search rules)

pub returns-in-6 : goal.returns-in-6
unfolding result_of
returns-in-6 c = let a = c.args in (result_arm a.setting a.channels.now a.held (input_at a.x) 6 c.in-6.is (refl, c.ranges.held), search rules)

pub returns-in_default : goal.returns-in_default
returns-in_default c = let n = c.in_default.in_default-own.rest in let a = c.args in (result_rest a.setting a.channels.now a.held (input_at a.x) a.operation n.0.0.1 n.0.1 n.1 (record { sfits = c.of_inputs-arg-1.given }) (record { sfits = c.of_inputs-arg-in_default-1.given }) (record { sfits = c.of_inputs-arg-in_default-2-1.given }) (record { sfits = c.of_inputs-arg-in_default-3-1.given }) c.of_inputs.ensures, search rules)
