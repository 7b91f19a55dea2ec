-- What is lent is all that is left of the bytes.
use Rattle.asks.proofs.Turning.{rest_all}
use Rattle.asks.proofs.turns.rest_at.Goals as goal

pub returns : goal.returns
returns c = search rest_all
