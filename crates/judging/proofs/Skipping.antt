-- Where the rows make a view, the verdict on a row as it is drawn is the verdict on it as its tree is read.
use Prim.Native.Nat.{ℕ, ◌<◌}
use mathlib.Core.List.{List}
use mathlib.Core.Logic.{◌↔◌}
use Rattle.loops.specs.Catalogue.{Unlisted}
use Rattle.loops.specs.Loops.{Unheld}
use Rattle.wires.proofs.Judged.{unlisted_alike, unheld_alike}
use Rattle.rows.specs.Joined.{Source, drawn, joined}
use Rattle.rows.specs.View.{Viewed, view_rows}
use Rattle.rows.proofs.View.{laid_closed}

module _ {s : Source} {table : List ℕ} (v : Viewed s table) {u : ℕ} (h : u < view_rows s table) where
  pub read_unlisted : Unlisted (drawn s) u ↔ Unlisted (joined s) u
  unfolding joined
  read_unlisted = unlisted_alike (drawn s) (laid_closed v.laid) v.wires v.ended h

  pub read_unheld : Unheld (drawn s) u ↔ Unheld (joined s) u
  unfolding joined
  read_unheld = unheld_alike (drawn s) (laid_closed v.laid) v.wires v.ended h
