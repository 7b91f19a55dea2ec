-- The row is the only start, and what it leads to is the verdict's.
use Rattle.ordering.proofs.Alone.{first_there, row_short, alone_starting, alone_says}
use Rattle.ordering.proofs.order_from.Goals as goal

pub put_entry-requires : goal.put_entry-requires
put_entry-requires c = (search first_there, search row_short)

pub verdict_of-requires : goal.verdict_of-requires
verdict_of-requires c = search alone_starting

pub returns : goal.returns
returns c = search alone_says
