-- Each test picks its case of the answer.
use Rattle.store.proofs.Room.{answer_none, answer_some}
use Rattle.store.proofs.capacity.capacity_of.Goals as goal

pub returns-then-words-eq0 : goal.returns-then-words-eq0
returns-then-words-eq0 c = search answer_none

pub returns : goal.returns
returns c = search answer_some
