-- A row that is its own class is put at its number; any other is known.
use Rattle.writing.proofs.Putting.{added_known, added_there, added_new}
use Rattle.writing.proofs.puts.put_one.Goals as goal

pub put_row-requires : goal.put_row-requires
put_row-requires c = search added_there

pub returns-then-entry-u : goal.returns-then-entry-u
returns-then-entry-u c = search added_new

pub returns-else-entry-u : goal.returns-else-entry-u
returns-else-entry-u c = search added_known
