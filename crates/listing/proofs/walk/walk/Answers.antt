-- The invariant: the sheets so far were inserted one after another, and their lines stand in `out`. The measure is the bytes left.
use borrow.Author.Rules.{rules}
use Rattle.listing.proofs.Running.{running_none, running_less, running_room, running_more, running_rest, running_whole}
use Rattle.listing.proofs.walk.walk.Goals as goal

pub sheets-init : goal.sheets-init
sheets-init c = search running_none

pub put_rest-requires : goal.put_rest-requires
put_rest-requires c = search running_rest

pub returns-then-part-eq0 : goal.returns-then-part-eq0
returns-then-part-eq0 c = search running_whole

pub one_sheet-used-requires : goal.one_sheet-used-requires
one_sheet-used-requires c = (search rules, search running_room)

pub sheets-smaller : goal.sheets-smaller
sheets-smaller c = search running_less

pub sheets-preserved : goal.sheets-preserved
sheets-preserved c = search running_more
