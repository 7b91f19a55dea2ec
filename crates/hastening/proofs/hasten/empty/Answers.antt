-- All entries are cleared.
use Rattle.hastening.proofs.Hastening.{emptied}
use Rattle.hastening.proofs.hasten.empty.Goals as goal

pub returns : goal.returns
returns c = search emptied
