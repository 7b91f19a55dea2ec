-- A walk, and a look at all rows.
use Rattle.hastening.proofs.Hastening.{turned}
use Rattle.hastening.proofs.hasten.turn.Goals as goal

pub returns : goal.returns
returns c = turned _ _ _ _ _ _ _ _ _ _ _ c.walks.ensures c.scan.ensures
