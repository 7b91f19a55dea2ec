-- The places from k on have been looked at.
use borrow.Author.Rules.{rules}
use Rattle.judging.proofs.Sifting.{pass_none, pass_long, pass_place, pass_sifting, pass_more, pass_done}
use Rattle.judging.proofs.peeling.peel_places.Goals as goal

pub loop-k-init : goal.loop-k-init
loop-k-init c = (search pass_none, search rules)

pub peel_place-left-requires-clause-stated : goal.peel_place-left-requires-clause-stated
peel_place-left-requires-clause-stated c = search pass_long

pub peel_place-left-requires-clause-sifting : goal.peel_place-left-requires-clause-sifting
peel_place-left-requires-clause-sifting c = (search pass_sifting, search pass_place)

pub loop-k-preserved : goal.loop-k-preserved
loop-k-preserved c = (search pass_more, search rules)

pub returns : goal.returns
returns c = search pass_done
