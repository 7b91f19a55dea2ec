-- Below the rows in use a row of the store, else the sheet row at the table's place.
use native.Mathlib.Omega.{arith}
use Rattle.rows.proofs.Reading.{drawn_store_there, drawn_store_read, drawn_sheet_there, drawn_sheet_read}
use Rattle.rows.proofs.viewing.View.read_drawn.Goals as goal

pub stored_row-requires : goal.stored_row-requires
stored_row-requires c = search drawn_store_there

pub returns-then-u-self : goal.returns-then-u-self
returns-then-u-self c = search drawn_store_read

pub sheet_row-requires : goal.sheet_row-requires
sheet_row-requires c = drawn_sheet_there c.requires.0 _ _ (omega arith) c.entry.ensures.0

pub returns : goal.returns
returns c = search drawn_sheet_read
