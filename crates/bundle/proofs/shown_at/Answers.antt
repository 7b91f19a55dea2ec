-- Past the end it is the empty part at the end; else the next sheet of what is left from the place on.
use native.Mathlib.Omega.{arith}
use mathlib.Core.Path.{refl}
use Rattle.bundle.proofs.Showing.{shows_past, shows_rest}
use Rattle.bundle.proofs.shown_at.Goals as goal

pub returns-then-end-at : goal.returns-then-end-at
returns-then-end-at c = shows_past _ _ _ (omega arith) refl refl

pub returns : goal.returns
returns c = search shows_rest
