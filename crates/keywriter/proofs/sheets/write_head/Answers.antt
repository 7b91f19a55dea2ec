-- Length and version, and then the count of rows.
use borrow.Author.Rules.{rules}
use Rattle.keywriter.proofs.Whole.{head_room, head_wrote}
use Rattle.keywriter.proofs.sheets.write_head.Goals as goal

pub put_two-requires : goal.put_two-requires
put_two-requires c = (search rules, search head_room)

pub returns : goal.returns
returns c = search head_wrote
