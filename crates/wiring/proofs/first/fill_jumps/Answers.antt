-- The jumps of the rows so far are filled.
use Rattle.wiring.proofs.Filling.{filled_none, filled_placed, filled_row, filled_short, filled_fits, filled_room, filled_more, filled_all}
use Rattle.wiring.proofs.first.fill_jumps.Goals as goal

pub loop-i-init : goal.loop-i-init
loop-i-init c = search filled_none

pub row_leads-requires : goal.row_leads-requires
row_leads-requires c = (search filled_placed, search filled_row)

pub returns-in_default : goal.returns-in_default
returns-in_default c = search filled_short

pub put_entry-requires : goal.put_entry-requires
put_entry-requires c = (search filled_room, search filled_fits)

pub loop-i-preserved : goal.loop-i-preserved
loop-i-preserved c = search filled_more

pub returns : goal.returns
returns c = search filled_all
