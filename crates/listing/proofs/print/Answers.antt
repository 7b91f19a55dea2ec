-- `long`, or the text of the walk from an empty store.
use Rattle.listing.proofs.Printing.{printed_long, long_within, printed_walk, walk_within}
use Rattle.listing.proofs.print.Goals as goal

pub returns-then-input-gt-MOST_BYTES-clause-printed : goal.returns-then-input-gt-MOST_BYTES-clause-printed
returns-then-input-gt-MOST_BYTES-clause-printed c = search printed_long

pub returns-then-input-gt-MOST_BYTES-clause-upper_bound : goal.returns-then-input-gt-MOST_BYTES-clause-upper_bound
returns-then-input-gt-MOST_BYTES-clause-upper_bound c = search long_within

pub returns-clause-printed : goal.returns-clause-printed
returns-clause-printed c = search printed_walk

pub returns-clause-upper_bound : goal.returns-clause-upper_bound
returns-clause-upper_bound c = search walk_within
