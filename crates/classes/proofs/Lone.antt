-- A store alone, sorted: its rows are of different trees exactly when each is its own class.
use Rattle.std.proofs.Common.{◌≡◌, ℕ, ◌+◌, ◌-◌, ◌/◌, ◌≤◌, List, [], Bool, length, arith}
use native.Mathlib.Nat.{min-le_left}
use Rattle.rules.specs.Lists.{widest}
use Rattle.rules.specs.Answers.{Says}
use Rattle.rules.proofs.Answers.{says_same}
use Rattle.trees.specs.Agreement.{Minimal}
use Rattle.store.specs.Layout.{in_use, store_graph, capacity_of}
use Rattle.store.specs.Sound.{Shaped}
use Rattle.rows.specs.Joined.{source}
use Rattle.rows.specs.View.{Viewed, view_rows}
use Rattle.rows.proofs.Views.{view_store}
use Rattle.classes.specs.Settled.{SortedOver}
use Rattle.classes.specs.Own.{OwnClasses}
use Rattle.classes.proofs.Owning.{own_minimal, minimal_own}

module _ (most : ℕ) (w b : List ℕ) (rows : ℕ) (l : most ≤ widest) (sh : Shaped most w) (e : rows ≡ in_use w) where
  pub alone_viewed : Viewed (source most w rows b) []
  alone_viewed = rw e (view_store l sh)

  pub alone_fits : (cls : List ℕ) → rows ≤ length cls → view_rows (source most w rows b) [] ≤ length cls
  alone_fits cls h = omega arith

  pub alone_rows : (old cls : List ℕ) → SortedOver (source most w rows b) [] old cls → rows ≤ length old → rows ≤ length cls
  alone_rows old cls o h = omega (arith, o.stands.same)

  pub distinct_says : (old cls : List ℕ) (t : Bool) → SortedOver (source most w rows b) [] old cls → Says (OwnClasses rows cls) t → Says (Minimal (store_graph most w) (in_use w)) t
  distinct_says old cls t o q =
      rw (← e) (says_same (own_minimal alone_viewed o.sorted, minimal_own alone_viewed o.sorted) q)

-- a store has at most 1,024 rows
pub lone_few : (most : ℕ) (w : List ℕ) (rows : ℕ) → Shaped most w → rows ≡ in_use w → rows ≤ 1024
unfolding capacity_of
lone_few most w rows sh e = let few = min-le_left 1024 ((length w - 1) / (most + 2)) in omega (arith, sh.fits)
