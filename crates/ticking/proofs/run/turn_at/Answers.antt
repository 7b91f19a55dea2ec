-- The values of a tick below their number are all there.
use native.Mathlib.Omega.{arith}
use Rattle.ticking.proofs.Runs.{tick_in, turned_trace}
use Rattle.ticking.proofs.run.turn_at.Goals as goal

pub overflow_mul-at : goal.overflow_mul-at
overflow_mul-at c = let asked = c.requires.channels_nonzero in omega (arith, tick_in _ _ _ asked.0 asked.1)

pub overflow_add-end : goal.overflow_add-end
overflow_add-end c = let asked = c.requires.channels_nonzero in omega (arith, tick_in _ _ _ asked.0 asked.1)

pub offset_bounds-values-at : goal.offset_bounds-values-at
offset_bounds-values-at c = let asked = c.requires.channels_nonzero in omega (arith, tick_in _ _ _ asked.0 asked.1)

pub slice_bounds-turn-end : goal.slice_bounds-turn-end
slice_bounds-turn-end c = let asked = c.requires.channels_nonzero in omega (arith, tick_in _ _ _ asked.0 asked.1)

pub returns : goal.returns
returns c = search turned_trace
