-- The sum over the first u numbers.
use Rattle.tallying.proofs.Counting.{summing_none, summing_more}
use Rattle.tallying.proofs.sum_of.Goals as goal

pub loop-u-init : goal.loop-u-init
loop-u-init g c = search summing_none

pub loop-u-preserved : goal.loop-u-preserved
loop-u-preserved g c = search (summing_more, c.requires.low)
