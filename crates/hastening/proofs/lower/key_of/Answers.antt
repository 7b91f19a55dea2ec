-- A named row has its name, any other more.
use Rattle.hastening.proofs.Lowest.{key_of_named, key_of_bare}
use Rattle.hastening.proofs.lower.key_of.Goals as goal

pub returns-then-entry-eq1 : goal.returns-then-entry-eq1
returns-then-entry-eq1 c = search key_of_named

pub returns : goal.returns
returns c = search key_of_bare
