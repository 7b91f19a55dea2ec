-- The sheet's part of the states is searched.
use Rattle.judging.proofs.Listing.{sheet_left}
use Rattle.judging.proofs.verdict.leaves_some.Goals as goal

pub returns : goal.returns
returns c = search sheet_left
