-- No channel among the rows looked at is astray.
use Rattle.ticking.proofs.Straying.{astray_none, astray_here, astray_more, astray_all}
use Rattle.ticking.proofs.channels.channels_there.Goals as goal

pub loop-k-init : goal.loop-k-init
loop-k-init c = search astray_none

pub returns-then-astray : goal.returns-then-astray
returns-then-astray c = search astray_here

pub loop-k-preserved : goal.loop-k-preserved
loop-k-preserved c = search astray_more

pub returns : goal.returns
returns c = search astray_all
