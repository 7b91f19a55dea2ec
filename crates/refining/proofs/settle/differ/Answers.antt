-- The rows before have the same classes in both.
use Rattle.refining.proofs.Differing.{same_none, same_more, one_moved, none_moved}
use Rattle.refining.proofs.settle.differ.Goals as goal

pub loop-u-init : goal.loop-u-init
loop-u-init c = search same_none

pub returns-then-entry : goal.returns-then-entry
returns-then-entry c = search one_moved

pub loop-u-preserved : goal.loop-u-preserved
loop-u-preserved c = search same_more

pub returns : goal.returns
returns c = search none_moved
