-- Where more bytes are needed there is room for them.
use Rattle.asks.proofs.Serving.{roomy_held}
use Rattle.asks.proofs.run.Goals as goal

pub read_after-requires : goal.read_after-requires
read_after-requires c = roomy_held _ _ c.loop.window.wide c.loop.window.inside c.held.ensures c.in_ok-done.ensures c.in-More.is
