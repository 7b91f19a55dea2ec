-- A row that is not marked and has a marked input is marked.
use Rattle.dropping.proofs.Looks.{look_marked, look_not, look_drops}
use Rattle.dropping.proofs.drop_row.Goals as goal

pub returns-then-entry_of : goal.returns-then-entry_of
returns-then-entry_of c = search look_marked

pub returns-then-not-has_marked : goal.returns-then-not-has_marked
returns-then-not-has_marked c = search look_not

pub returns : goal.returns
returns c = search look_drops
