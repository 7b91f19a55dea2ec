-- What every line has, the rows' numbers, and the newline.
use Rattle.listing.proofs.Putting.{line_head, line_rows, line_end, line_wrote}
use Rattle.listing.proofs.lines.put_line.Goals as goal

pub put_head-a-requires : goal.put_head-a-requires
put_head-a-requires c = search line_head

pub put_numbers-c-requires : goal.put_numbers-c-requires
put_numbers-c-requires c = search line_rows

pub put_byte-requires : goal.put_byte-requires
put_byte-requires c = search line_end

pub returns : goal.returns
returns c = search line_wrote
