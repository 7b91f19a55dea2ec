-- An entry of 0 is written, any other read.
use borrow.Author.Rules.{rules}
use Rattle.hastening.proofs.Lowest.{first_none, first_some}
use Rattle.hastening.proofs.lower.first_of.Goals as goal

pub returns-then-h-eq0 : goal.returns-then-h-eq0
returns-then-h-eq0 c = (search first_none, search rules)

pub returns : goal.returns
returns c = (search first_some, search rules)
