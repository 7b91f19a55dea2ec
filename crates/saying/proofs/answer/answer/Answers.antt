-- A whole request that is none of the first twelve is the thirteenth.
use borrow.Author.Rules.{rules}
use Rattle.requests.proofs.There.{of_thirteen}
use Rattle.saying.proofs.answer.answer.Goals as goal

pub say_convert-requires : goal.say_convert-requires
say_convert-requires c = let n = c.in_default.in_default-own.rest in of_thirteen (search rules) n.0.0.0.0.0.0.0.0.0.0.0.1 n.0.0.0.0.0.0.0.0.0.0.1 n.0.0.0.0.0.0.0.0.0.1 n.0.0.0.0.0.0.0.0.1 n.0.0.0.0.0.0.0.1 n.0.0.0.0.0.0.1 n.0.0.0.0.0.1 n.0.0.0.0.1 n.0.0.0.1 n.0.0.1 n.0.1 n.1
