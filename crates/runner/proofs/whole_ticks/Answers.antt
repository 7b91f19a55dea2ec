-- Too few channels, too many, or what the remainder says.
use Rattle.runner.proofs.Outcomes.{ticks_none, ticks_many, ticks_whole}
use Rattle.runner.proofs.whole_ticks.Goals as goal

pub returns-then-channels-lt1 : goal.returns-then-channels-lt1
returns-then-channels-lt1 c = search ticks_none

pub returns-then-channels-gt-MOST_CHANNELS : goal.returns-then-channels-gt-MOST_CHANNELS
returns-then-channels-gt-MOST_CHANNELS c = search ticks_many

pub returns : goal.returns
returns c = search ticks_whole
