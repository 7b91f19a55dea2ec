-- A row below the store's count is met.
use Rattle.reaching.proofs.Meeting.{one_met, one_passed}
use Rattle.reaching.proofs.meet_stored.Goals as goal

pub returns-then-x-stored : goal.returns-then-x-stored
returns-then-x-stored c = search one_met

pub returns : goal.returns
returns c = search one_passed
