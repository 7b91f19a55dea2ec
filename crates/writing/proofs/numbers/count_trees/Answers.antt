-- So many trees appear first below the next row.
use Rattle.writing.proofs.Counts.{trees_none, trees_more, trees_all}
use Rattle.writing.proofs.numbers.count_trees.Goals as goal

pub loop-u-init : goal.loop-u-init
loop-u-init c = search trees_none

pub loop-u-preserved : goal.loop-u-preserved
loop-u-preserved c = search trees_more

pub returns : goal.returns
returns c = search trees_all
