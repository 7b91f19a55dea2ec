-- A done sheet has a head.
use Rattle.listing.proofs.Running.{two_there, told_two, told_zero}
use Rattle.listing.proofs.walk.rows_told.Goals as goal

pub row_count-requires : goal.row_count-requires
row_count-requires c = search two_there

pub returns-then-number-eq0 : goal.returns-then-number-eq0
returns-then-number-eq0 c = search told_two

pub returns : goal.returns
returns c = search told_zero
