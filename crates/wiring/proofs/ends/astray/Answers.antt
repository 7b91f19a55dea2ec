-- Below 32,768 a row of the sheet, else one of the store, which is no wire.
use Rattle.wiring.proofs.Ending.{astray_stored}
use Rattle.wiring.proofs.ends.astray.Goals as goal

pub returns : goal.returns
returns c = search astray_stored
