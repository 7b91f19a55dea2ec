-- The first jumps, eleven passes, and the endless ones marked.
use Rattle.jumping.proofs.Ends.{led_all}
use Rattle.jumping.proofs.lead.Goals as goal

pub returns : goal.returns
returns c = search led_all
