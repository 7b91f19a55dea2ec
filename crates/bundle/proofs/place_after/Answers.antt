-- Past the end the place stays; else what is shown ends within the bundle.
use Rattle.bundle.proofs.Showing.{past_stays, shows_within, shows_after}
use Rattle.bundle.proofs.place_after.Goals as goal

pub returns-then-bundle-at : goal.returns-then-bundle-at
returns-then-bundle-at c = search past_stays

pub further-requires : goal.further-requires
further-requires c = search shows_within

pub returns : goal.returns
returns c = search shows_after
