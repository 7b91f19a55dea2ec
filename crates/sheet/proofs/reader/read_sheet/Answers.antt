-- The tests follow the order of the definition: length field, version, row count, rows.
use Rattle.sheet.proofs.Heads.{head_short, head_miscounted, head_unknown, head_many, head_rows}
use Rattle.sheet.proofs.reader.read_sheet.Goals as goal

pub returns-then-length-lt7 : goal.returns-then-length-lt7
returns-then-length-lt7 c = rw c.new.ensures (search head_short)

pub returns-then-four-length : goal.returns-then-four-length
returns-then-four-length c = rw c.new-then-four-length.ensures (search head_miscounted)

pub returns-in_default : goal.returns-in_default
returns-in_default c = rw c.new-in_default.ensures (search head_unknown)

pub returns-then-rows-gt-MOST_ROWS : goal.returns-then-rows-gt-MOST_ROWS
returns-then-rows-gt-MOST_ROWS c = rw c.new-then-rows-gt-MOST_ROWS.ensures (search head_many)

pub returns : goal.returns
returns c = search head_rows
