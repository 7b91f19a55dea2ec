-- The table of row places becomes the table of where each row is read.
use borrow.Author.Rules.{rules}
use Rattle.inserting.proofs.Inserting.{wired_settled, wired_spotted}
use Rattle.inserting.proofs.insertion.insert_rows.Goals as goal

pub skip-requires : goal.skip-requires
skip-requires c = search wired_settled

pub insert_view-requires : goal.insert_view-requires
insert_view-requires c = (search wired_spotted, search rules)
