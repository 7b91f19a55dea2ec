-- A done sheet has a head, and the answer list an entry for each of its rows; its line has room.
use mathlib.Core.Path.{sym}
use lib.Seq.{length-take-le}
use Rattle.listing.proofs.Running.{headed, told_within, line_room, line_took}
use Rattle.listing.proofs.walk.one_sheet.Goals as goal

pub rows_told-rows-requires : goal.rows_told-rows-requires
rows_told-rows-requires c = search headed

pub slice_bounds-put_line-end : goal.slice_bounds-put_line-end
slice_bounds-put_line-end c = search told_within

pub slice_bounds-put_line-end-2 : goal.slice_bounds-put_line-end-2
slice_bounds-put_line-end-2 c = sym (length-take-le _ _ (search told_within))

pub put_line-requires : goal.put_line-requires
put_line-requires c = search line_room

pub returns : goal.returns
returns c = search line_took
