-- Rounds until nothing moves.
use Rattle.std.specs.Prelude.{Option, Some, None}
use Rattle.std.proofs.Common.{◌≡◌, ℕ, ◌≤◌, List, [], length, replicate, arith}
use Rattle.rules.specs.Lists.{firsts}
use Rattle.rules.specs.Writes.{over_front}
use Rattle.trees.specs.Graph.{Graph, Closed}
use Rattle.rows.specs.Joined.{Source, joined}
use Rattle.rows.specs.View.{Viewed, view_rows}
use Rattle.rows.proofs.View.{viewed_closed, viewed_few}
use Rattle.rounds.specs.Classes.{class_of, Stands}
use Rattle.rounds.specs.Settling.{Sorting}
use Rattle.rounds.proofs.Settling.{stands_refl, stands_trans, taken_stands, sorting_begin, sorting_still, sorting_again, sorting_less}
use Rattle.refining.specs.Seeking.{Round}
use Rattle.refining.specs.Moved.{MovedSays, says_still, says_row, taken_over, SettleSays}
use Rattle.classes.specs.Settled.{SortedOver, RoundSays, says_settled, says_refined}
use Rattle.hastening.specs.Ready.{Ready}

-- the same classes with the array's other entries forgotten
again : {g : Graph} {n : ℕ} {old cls new links : List ℕ} → Sorting g n old cls new links → Sorting g n cls cls new links
again {g} {n} {old} {cls} r =
    record {
      classes = r.classes;
      coarse = r.coarse;
      new_long = r.new_long;
      stale = r.stale;
      stands = stands_refl n cls;
    }

-- ---- one round

module _ (s : Source) (table cls new links new' links' cls' : List ℕ) (r : Ready s table cls new links) (d : Round s table cls new' links' (view_rows s table)) where
  closed : Closed (joined s) (view_rows s table)
  closed = viewed_closed r.view

  module _ (m : Option ℕ) (t : SettleSays (view_rows s table) cls new' cls' m) where
    pub round_over : m ≡ None → RoundSays s table cls cls' new' links' None
    round_over q = go (rw q at t.moved) (rw q at t.taken)
      where
        go : MovedSays (view_rows s table) cls new' None → cls' ≡ cls → RoundSays s table cls cls' new' links' None
        go (says_still f) e = says_settled e (sorting_still (joined s) (view_rows s table) cls cls new links new' links' closed r.sorting d f)

    pub round_more : (w made : ℕ) → m ≡ Some w → RoundSays s table cls cls' new' links' (Some made)
    round_more w made q = go (rw q at t.moved) (rw q at t.taken)
      where
        go : MovedSays (view_rows s table) cls new' (Some w) → cls' ≡ taken_over (view_rows s table) cls new' (Some w) → RoundSays s table cls cls' new' links' (Some made)
        go (says_row h f) e =
            says_refined
            (record {
              view = r.view;
              sorting = again (sorting_again (joined s) (view_rows s table) cls cls new links new' links' closed r.sorting d cls' e);
            })
            (rw e (taken_stands (view_rows s table) new' cls r.sorting.classes.long))
            (sorting_less (joined s) (view_rows s table) cls cls new links new' links' closed r.sorting d cls' e w h f)

-- ---- from all rows in class 0

module _ (s : Source) (table old cls : List ℕ) (n : ℕ) (v : Viewed s table) (long : view_rows s table ≤ length old) (e : n ≡ view_rows s table) (t : cls ≡ over_front (firsts (class_of []) n) old) where
  begun : (new links : List ℕ) → view_rows s table ≤ length new → links ≡ replicate 4096 0 → Sorting (joined s) (view_rows s table) old cls new links
  begun new links b d = sorting_begin (joined s) (view_rows s table) old cls new links (viewed_few v) long b d (rw e at t)

  pub sort_ready : (new links : List ℕ) → 2048 ≡ length new → links ≡ replicate 4096 0 → Ready s table cls new links
  sort_ready new links b d =
      let few = viewed_few v in
      record { view = v; sorting = again (begun new links (omega arith) d) }

  pub sort_done : (cls' : List ℕ) → SortedOver s table cls cls' → SortedOver s table old cls'
  sort_done cls' o =
      let st : Stands (view_rows s table) old cls = rw t (rw e (taken_stands (view_rows s table) [] old long)) in
      record { sorted = o.sorted; stands = stands_trans st o.stands }
