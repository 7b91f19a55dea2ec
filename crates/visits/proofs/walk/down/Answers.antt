-- A row that was visited is not entered.
use Rattle.visits.proofs.Visits.{down_not, down_on}
use Rattle.visits.proofs.walk.down.Goals as goal

pub returns-then-entry-ne0 : goal.returns-then-entry-ne0
returns-then-entry-ne0 c = search down_not

pub returns : goal.returns
returns c = search down_on
