-- Each pass but the last takes rows away, so that they end.
use borrow.Author.Rules.{rules}
use Rattle.judging.proofs.Sifting.{turns_none, turns_long, turns_sifting, turns_more, turns_less, turns_done}
use Rattle.judging.proofs.peeling.peel_queue.Goals as goal

pub loop-waiting-init : goal.loop-waiting-init
loop-waiting-init c = (search turns_none, search rules)

pub peel_places-left-requires-clause-stated : goal.peel_places-left-requires-clause-stated
peel_places-left-requires-clause-stated c = search turns_long

pub peel_places-left-requires-clause-sifting : goal.peel_places-left-requires-clause-sifting
peel_places-left-requires-clause-sifting c = search turns_sifting

pub returns-then-left-waiting : goal.returns-then-left-waiting
returns-then-left-waiting c = search turns_done

pub loop-waiting-smaller : goal.loop-waiting-smaller
loop-waiting-smaller c = search turns_less

pub loop-waiting-preserved : goal.loop-waiting-preserved
loop-waiting-preserved c = (search turns_more, search rules)
