-- The next number is put at its row; any other row stays.
use Rattle.gathering.proofs.Moving.{move_there, move_stays, move_moves}
use Rattle.gathering.proofs.move_one.Goals as goal

pub returns-then-entry_of-k : goal.returns-then-entry_of-k
returns-then-entry_of-k c = search move_stays

pub put_row-requires : goal.put_row-requires
put_row-requires c = search move_there

pub returns : goal.returns
returns c = search move_moves
