-- The rows before have the flags of their classes.
use Rattle.choosing.proofs.Marks.{flag_inside, marking_none, marking_more, marking_all}
use Rattle.choosing.proofs.mark.by_class.Goals as goal

pub loop-u-init : goal.loop-u-init
loop-u-init c = search marking_none

pub entry-flag-requires : goal.entry-flag-requires
entry-flag-requires c = search flag_inside

pub loop-u-preserved : goal.loop-u-preserved
loop-u-preserved c = search marking_more

pub returns : goal.returns
returns c = search marking_all
