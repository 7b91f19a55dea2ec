-- The store rows that the sheet leads to.
use Rattle.converter.proofs.Converting.{opened_drawn, opened_queue}
use Rattle.converter.proofs.convert_rows.Goals as goal

pub reach-filled-requires-clause-drawn : goal.reach-filled-requires-clause-drawn
reach-filled-requires-clause-drawn c = search opened_drawn

pub reach-filled-requires-clause-stored_in_bounds : goal.reach-filled-requires-clause-stored_in_bounds
reach-filled-requires-clause-stored_in_bounds c = (search opened_queue, search opened_queue)
