-- Below the rows in use a row of the store; else the table's entry is a place of the sheet.
use native.Mathlib.Omega.{arith}
use Rattle.rows.proofs.Reading.{store_there, store_read, sheet_there, sheet_read}
use Rattle.rows.proofs.viewing.View.read.Goals as goal

pub stored_row-requires : goal.stored_row-requires
stored_row-requires c = search store_there

pub returns-then-u-self : goal.returns-then-u-self
returns-then-u-self c = search store_read

pub sheet_row-requires : goal.sheet_row-requires
sheet_row-requires c = sheet_there c.requires.0 _ _ (omega arith) c.entry-at.ensures.0

pub returns : goal.returns
returns c = search sheet_read
