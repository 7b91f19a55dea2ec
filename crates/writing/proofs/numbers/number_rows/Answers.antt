-- The rows so far have their numbers, and the count is the next row's.
use Rattle.writing.proofs.Counts.{counting_none, counting_more, counting_numbers, counting_count}
use Rattle.writing.proofs.numbers.number_rows.Goals as goal

pub loop-u-init : goal.loop-u-init
loop-u-init c = search counting_none

pub loop-u-preserved : goal.loop-u-preserved
loop-u-preserved c = search counting_more

pub returns : goal.returns
returns c = (search counting_numbers, search counting_count)
