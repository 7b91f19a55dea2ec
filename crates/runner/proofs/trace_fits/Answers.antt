-- No whole ticks, or what the channels say.
use Rattle.runner.proofs.Outcomes.{chain_lined, fits_broken, fits_told}
use Rattle.runner.proofs.trace_fits.Goals as goal

pub returns-then-not-whole_ticks : goal.returns-then-not-whole_ticks
returns-then-not-whole_ticks c = search fits_broken

pub channels_there-requires : goal.channels_there-requires
channels_there-requires c = search chain_lined

pub returns : goal.returns
returns c = search fits_told
