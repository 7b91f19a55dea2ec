-- The store alone is the view with an empty table.
use Rattle.classes.proofs.Lone.{alone_viewed, alone_fits, alone_rows, distinct_says}
use Rattle.classes.proofs.alone.all_distinct.Goals as goal

pub sort-requires : goal.sort-requires
sort-requires c = (search alone_viewed, search alone_fits)

pub all_own-requires : goal.all_own-requires
all_own-requires c = search alone_rows

pub returns : goal.returns
returns c = search distinct_says
