-- Free is not listed; else the input count decides.
use Rattle.judging.proofs.Listing.{listed_free, listed_counts}
use Rattle.judging.proofs.catalogue.listed.Goals as goal

pub returns-then-inputs-eq-FREE : goal.returns-then-inputs-eq-FREE
returns-then-inputs-eq-FREE c = search listed_free

pub returns : goal.returns
returns c = search listed_counts
