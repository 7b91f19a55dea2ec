-- A walk that names nothing keeps its room.
use Prim.Native.Nat.{ℕ, ◌+◌, ◌/◌, ◌<◌}
use native.Mathlib.Omega.{arith}
use mathlib.Core.Path.{◌≡◌}
use mathlib.Core.List.{List}
use lib.ListN.{length}
use Rattle.rows.specs.Joined.{Source}
use Rattle.rows.specs.View.{Viewed, view_rows}
use Rattle.rows.proofs.View.{viewed_few}
use Rattle.visits.specs.Walked.{InputOr}
use Rattle.choosing.specs.Marked.{Choosing}

module _ (s : Source) (table cls marks links : List ℕ) (o : Choosing s table cls marks links) where
  pub cut_view : Viewed s table
  cut_view = o.view

  pub cut_link : (u : ℕ) → u < view_rows s table → u < length links
  cut_link u h = omega (arith, viewed_few o.view, o.links_long)

-- an input is a row, and there are few
module _ (s : Source) (table : List ℕ) (j x : ℕ) (i : InputOr s table j x) (l : x < 2048) where
  pub step_inside : x < view_rows s table
  step_inside = i.inside l

  pub step_small : (mark : ℕ) → j ≡ mark / 4 → mark + 4 < 65536
  step_small mark e = omega (arith, i.few l)
