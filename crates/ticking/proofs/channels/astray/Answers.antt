-- A channel's operation is 1, and its setting is the rest of its label.
use Rattle.walker.proofs.Visits.{row_there}
use Rattle.ticking.proofs.Straying.{other_row, channel_row}
use Rattle.ticking.proofs.channels.astray.Goals as goal

pub label_of-label-requires : goal.label_of-label-requires
label_of-label-requires c = search row_there

pub returns-then-label-ne-CHANNEL : goal.returns-then-label-ne-CHANNEL
returns-then-label-ne-CHANNEL c = search other_row

pub returns : goal.returns
returns c = search channel_row
