-- A marked row stays; else the jump of the row named is taken.
use Rattle.jumping.proofs.Passes.{on_next, told_stays, told_goes}
use Rattle.jumping.proofs.jump_on.Goals as goal

pub entry_of-requires : goal.entry_of-requires
entry_of-requires c = search on_next

pub returns-then-x : goal.returns-then-x
returns-then-x c = search told_goes

pub returns-else-x : goal.returns-else-x
returns-else-x c = search told_stays
