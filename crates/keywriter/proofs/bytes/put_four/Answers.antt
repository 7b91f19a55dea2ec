-- The high half, and then the low one.
use borrow.Author.Rules.{rules}
use Rattle.keywriter.proofs.Writes.{four_room, wrote_four}
use Rattle.keywriter.proofs.bytes.put_four.Goals as goal

pub put_two-requires : goal.put_two-requires
put_two-requires c = (search rules, search four_room)

pub returns : goal.returns
returns c = search wrote_four
