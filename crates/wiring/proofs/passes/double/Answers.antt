-- The jumps passed are of twice as many wires.
use borrow.Author.Rules.{rules}
use Rattle.wiring.proofs.Doublings.{passing_none, passing_there, passing_room, passing_next, passing_all}
use Rattle.wiring.proofs.passes.double.Goals as goal

pub loop-i-init : goal.loop-i-init
loop-i-init c = search passing_none

pub onward-x-requires : goal.onward-x-requires
onward-x-requires c = (search passing_there, search rules)

pub put_entry-requires : goal.put_entry-requires
put_entry-requires c = (search passing_room, search rules)

pub loop-i-preserved : goal.loop-i-preserved
loop-i-preserved c = search passing_next

pub returns : goal.returns
returns c = (search passing_there, search passing_all)
