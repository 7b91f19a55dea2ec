-- A row of the store, or of the sheet.
use Rattle.appending.proofs.Placing.{place_store, place_sheet}
use Rattle.appending.proofs.places.place_of.Goals as goal

pub returns-then-x-stored : goal.returns-then-x-stored
returns-then-x-stored c = search place_store

pub returns : goal.returns
returns c = search place_sheet
