-- The answers so far stand at the front.
use native.Mathlib.Omega.{arith}
use Rattle.rules.proofs.Lists.{filled_none, filled_all}
use Rattle.writing.proofs.Counts.{number_there, answer_more}
use Rattle.writing.proofs.answers.put_answers.Goals as goal

pub loop-i-init : goal.loop-i-init
loop-i-init c = search filled_none

pub number_of-requires : goal.number_of-requires
number_of-requires c = number_there c.requires.0 _ (omega arith)

pub loop-i-preserved : goal.loop-i-preserved
loop-i-preserved c = search answer_more

pub returns : goal.returns
returns c = search filled_all
