-- Some rounds, rows named, more rounds.
use Rattle.std.specs.Prelude.{Option, Some, None}
use Rattle.std.proofs.Common.{◌≡◌, ℕ, ◌<◌, ◌≤◌, List, length, ◌∙◌, arith}
use Rattle.rows.specs.Joined.{Source}
use Rattle.rows.specs.View.{view_rows}
use Rattle.rounds.specs.Classes.{class_of}
use Rattle.rounds.specs.Ending.{spread}
use Rattle.rounds.proofs.Settling.{stands_refl, stands_trans}
use Rattle.choosing.specs.Marked.{ByClass, Choosing}
use Rattle.hastening.specs.Chosen.{Chosen}
use Rattle.hastening.specs.Ready.{Ready, Underway}
use Rattle.classes.specs.Settled.{SortedOver, RoundSays, says_settled, says_refined}
use Rattle.classes.specs.Staged.{RoundsSay, rounds_sorted, rounds_more, SomeSays, some_sorted, some_left}

pub underway_none : (s : Source) (table cls new links : List ℕ) → Ready s table cls new links → Underway s table cls cls new links
underway_none s table cls new links r = record { ready = r; stands = stands_refl (view_rows s table) cls }

pub underway_on : (s : Source) (table old cls new links cls' new' links' : List ℕ) → Underway s table old cls new links → Underway s table cls cls' new' links' → Underway s table old cls' new' links'
underway_on s table old cls new links cls' new' links' a b = record { ready = b.ready; stands = stands_trans a.stands b.stands }

pub underway_sorted : (s : Source) (table old cls new links cls' : List ℕ) → Underway s table old cls new links → SortedOver s table cls cls' → SortedOver s table old cls'
underway_sorted s table old cls new links cls' a o = record { sorted = o.sorted; stands = stands_trans a.stands o.stands }

-- ---- rounds

module _ (s : Source) (table old cls new links cls' new' links' : List ℕ) (u : Underway s table old cls new links) (m : Option ℕ) (told : RoundSays s table cls cls' new' links' m) where
  pub round_again : (made : ℕ) → m ≡ Some made → Underway s table old cls' new' links'
  round_again made q = go (rw q at told)
    where
      go : RoundSays s table cls cls' new' links' (Some made) → Underway s table old cls' new' links'
      go (says_refined r st l) = record { ready = r; stands = stands_trans u.stands st }

  pub round_nearer : (made : ℕ) → m ≡ Some made → spread (view_rows s table) (class_of cls') < spread (view_rows s table) (class_of cls)
  round_nearer made q = go (rw q at told)
    where
      go : RoundSays s table cls cls' new' links' (Some made) → spread (view_rows s table) (class_of cls') < spread (view_rows s table) (class_of cls)
      go (says_refined r st l) = l

  pub round_near : (made : ℕ) → m ≡ Some made → spread (view_rows s table) (class_of cls) ≤ spread (view_rows s table) (class_of old) → spread (view_rows s table) (class_of cls') ≤ spread (view_rows s table) (class_of old)
  round_near made q b = omega (arith, round_nearer made q)

  pub round_left : (made : ℕ) → m ≡ Some made → spread (view_rows s table) (class_of cls) ≤ spread (view_rows s table) (class_of old) → RoundsSay s table old cls' new' links' (Some made)
  round_left made q b = rounds_more (round_again made q) (omega (arith, round_nearer made q))

  pub round_settled : m ≡ None → RoundsSay s table old cls' new' links' None
  round_settled q = go (rw q at told)
    where
      go : RoundSays s table cls cls' new' links' None → RoundsSay s table old cls' new' links' None
      go (says_settled e x) = rounds_sorted (record { sorted = rw e x; stands = rw e u.stands })

-- ---- what some rounds have done

module _ (s : Source) (table old cls new links : List ℕ) (m : Option ℕ) (told : RoundsSay s table old cls new links m) where
  pub rounds_done : m ≡ None → SortedOver s table old cls
  rounds_done q = go (rw q at told)
    where
      go : RoundsSay s table old cls new links None → SortedOver s table old cls
      go (rounds_sorted o) = o

  module _ (made : ℕ) (q : m ≡ Some made) where
    pub rounds_left : Underway s table old cls new links
    rounds_left = go (rw q at told)
      where
        go : RoundsSay s table old cls new links (Some made) → Underway s table old cls new links
        go (rounds_more o l) = o

    pub rounds_ready : Ready s table cls new links
    rounds_ready = rounds_left.ready

    pub rounds_less : spread (view_rows s table) (class_of cls) < spread (view_rows s table) (class_of old)
    rounds_less = go (rw q at told)
      where
        go : RoundsSay s table old cls new links (Some made) → spread (view_rows s table) (class_of cls) < spread (view_rows s table) (class_of old)
        go (rounds_more o l) = l

    pub then_sorted : (cls' : List ℕ) → SortedOver s table cls cls' → SortedOver s table old cls'
    then_sorted cls' o = underway_sorted s table old cls new links cls' rounds_left o

-- until nothing moves
module _ (s : Source) (table old cls new links cls' new' links' : List ℕ) (h : Underway s table old cls new links) (m : Option ℕ) (told : RoundsSay s table cls cls' new' links' m) where
  pub run_again : (made : ℕ) → m ≡ Some made → Underway s table old cls' new' links'
  run_again made q = underway_on s table old cls new links cls' new' links' h (rounds_left s table cls cls' new' links' m told made q)

  pub run_done : m ≡ None → SortedOver s table old cls'
  run_done q = underway_sorted s table old cls new links cls' h (rounds_done s table cls cls' new' links' m told q)

-- ---- a stage

pub ready_choosing : (s : Source) (table cls new links : List ℕ) → Ready s table cls new links → length links ≡ 4096 → Choosing s table cls new links
ready_choosing s table cls new links r l = record { view = r.view; classes = r.sorting.classes; marks_long = r.sorting.new_long; links_long = l }

-- the marks may stand in the array of new classes, and anything in the links
pub ready_chosen : (s : Source) (table cls new links new' links' : List ℕ) → Ready s table cls new links → length links ≡ 4096 → length new' ≡ length new → length links' ≡ length links → ByClass (view_rows s table) cls new' → Chosen s table cls new' links'
ready_chosen s table cls new links new' links' r l e i b =
    record {
      view = r.view;
      classes = r.sorting.classes;
      coarse = r.sorting.coarse;
      marks_long = omega (arith, r.sorting.new_long);
      links_long = i ∙ l;
      classed = b;
    }

pub stage_says : (s : Source) (table old cls new links : List ℕ) → Underway s table old cls new links → (cls' new' links' : List ℕ) (m : Option ℕ) → RoundsSay s table cls cls' new' links' m → SomeSays s table old cls' new' links' m
stage_says s table old cls new links h cls' new' links' m (rounds_sorted o) = some_sorted (underway_sorted s table old cls new links cls' h o)
stage_says s table old cls new links h cls' new' links' m (rounds_more o l) = some_left (underway_on s table old cls new links cls' new' links' h o)

module _ (s : Source) (table old cls new links : List ℕ) (h : Underway s table old cls new links) (cls' new' links' : List ℕ) (m : Option ℕ) (told : SomeSays s table cls cls' new' links' m) where
  pub stage_again : (made : ℕ) → m ≡ Some made → Underway s table old cls' new' links'
  stage_again made q = go (rw q at told)
    where
      go : SomeSays s table cls cls' new' links' (Some made) → Underway s table old cls' new' links'
      go (some_left o) = underway_on s table old cls new links cls' new' links' h o

  pub stage_sorted : m ≡ None → SortedOver s table old cls'
  stage_sorted q = go (rw q at told)
    where
      go : SomeSays s table cls cls' new' links' None → SortedOver s table old cls'
      go (some_sorted o) = underway_sorted s table old cls new links cls' h o
