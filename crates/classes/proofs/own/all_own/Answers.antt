-- The rows before are their own classes.
use Rattle.classes.proofs.Owning.{own_none, own_more, own_part, own_all}
use Rattle.classes.proofs.own.all_own.Goals as goal

pub loop-u-init : goal.loop-u-init
loop-u-init c = search own_none

pub returns-then-entry-u : goal.returns-then-entry-u
returns-then-entry-u c = search own_part

pub loop-u-preserved : goal.loop-u-preserved
loop-u-preserved c = search own_more

pub returns : goal.returns
returns c = search own_all
