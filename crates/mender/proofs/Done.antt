-- The steps together are the outcome.
use Prim.Native.Nat.{ℕ, ◌+◌, ◌-◌, ◌≤◌, ◌<◌}
use native.Mathlib.Omega.{arith}
use mathlib.Core.Path.{◌≡◌, sym}
use mathlib.Core.List.{List}
use Rattle.rules.specs.Lists.{firsts}
use Rattle.rules.specs.Writes.{over_front}
use Rattle.trees.specs.Agreement.{SameTree}
use Rattle.store.specs.Layout.{count_of, input_of, store_graph}
use Rattle.store.specs.Sound.{Shaped}
use Rattle.numbering.specs.Numbers.{trees_below}
use Rattle.mends.specs.Dropped.{taken, Dropped, NoBox, left}
use Rattle.mends.specs.Lowest.{Lowest}
use Rattle.mends.specs.Counts.{tally, goes_at, wire_of, wire_at, merged_at}
use Rattle.mends.specs.Words.{MendedWords, listed}
use Rattle.mends.specs.Entries.{Marked}
use Rattle.mends.specs.Mended.{MendDone}
use Rattle.mends.proofs.Lowest.{low, own}
use Rattle.mends.proofs.Listing.{entry_listed, over_other}
use Rattle.mends.proofs.Mending.{class_left, left_class, kinds_sum}
use Rattle.renumbering.specs.Numbered.{Chosen}
use Rattle.gathering.specs.Gathered.{GatherAsks, Listing, Gathered}
use Rattle.mender.specs.Says.{MendSays, mend_done}
use Rattle.mender.specs.Steps.{MendAsks, Prepared, ListFilled}
use Rattle.mender.specs.declared.mending.Mended.{Mended}
use Rattle.mender.proofs.Joins.{gathered_mended}
use Rattle.mender.proofs.Preparing.{asks_room, asks_few, left_unmarked, clean_shaped, clean_inputs, clean_same}
use Rattle.mender.proofs.Choices.{class, class_lowest, class_chosen, box, box_lowest, drops_class, wired_class, clears_class}

module _ (most n : ℕ) (w old v list : List ℕ) (dropped wires cleared : ℕ) (a : MendAsks most n w old) (p : Prepared most n w old v list dropped wires cleared)
    (filled : List ℕ) (kept : ℕ) (f : ListFilled most n v list filled kept) where
  shaped : Shaped most v
  shaped = clean_shaped most n w old a list p.marked v p.cleaned

  row_few : (u : ℕ) → u < n → count_of most v u ≤ most
  row_few u h = (shaped.rows u (rw p.cleaned.count h)).few

  row_used : (u j : ℕ) → u < n → j < count_of most v u → input_of most v u j < n
  row_used u j h l = omega (arith, (shaped.rows u (rw p.cleaned.count h)).used j l, p.cleaned.count)

  pub done_gather : GatherAsks most n v filled
  done_gather =
      record {
        limit = a.limit;
        words = omega (arith, a.words, p.cleaned.long);
        room = rw p.cleaned.long (asks_room most n w old a);
        entries = omega (arith, a.entries, f.given.long, p.marked.stands.long);
        few = row_few;
        used = row_used;
      }

  -- ---- the choices

  same : (u : ℕ) → u < n → (Marked list u → ⊥) → SameTree (store_graph most v) u (left most w) u
  same = clean_same most n w old a list p.marked v p.cleaned

  abbrev c : ℕ → ℕ
  c = class most n w old list p.marked (store_graph most v) f.classes f.sorted same

  lowest : Lowest (left most w) n (Dropped most w n) c
  lowest = class_lowest most n w old list p.marked (store_graph most v) f.classes f.sorted same

  chosen : Chosen (left most w) n list f.classes c
  chosen = class_chosen most n w old list p.marked (store_graph most v) f.classes f.sorted same

  abbrev b : ℕ → ℕ
  b = box most n w old list p.marked (store_graph most v) f.classes f.sorted same

  boxes : Lowest (left most w) n (NoBox most w n) b
  boxes = box_lowest most n w old list p.marked (store_graph most v) f.classes f.sorted same

  drops : dropped ≡ tally (goes_at n c) n
  drops = drops_class most n w old list p.marked (store_graph most v) f.classes f.sorted same dropped wires cleared p.counts

  wired : wires ≡ tally (wire_at n c (wire_of most w)) n
  wired = wired_class most n w old list p.marked (store_graph most v) f.classes f.sorted same dropped wires cleared p.counts

  kept_is : kept ≡ trees_below c n
  kept_is = f.given.count (left most w) c chosen

  -- ---- the counts make the count taken

  sum : trees_below c n + tally (merged_at b) n + tally (wire_at n c (wire_of most w)) n + tally (goes_at n c) n ≡ n
  sum = kinds_sum (asks_few most n w old a) lowest boxes

  pub done_fits : kept + wires + dropped ≤ n
  done_fits = omega (arith, sum, kept_is, wired, drops)

  merges : n - dropped - wires - kept ≡ tally (merged_at b) n
  merges = omega (arith, sum, kept_is, wired, drops)

  -- ---- the words

  numbered : filled ≡ over_front (firsts (listed n c) n) list
  numbered = f.given.listing (left most w) c chosen

  listing : Listing most n v filled c
  unfolding store_graph
  listing =
      record {
        entries = entry_listed (listed n c) n list filled (omega (arith, a.entries, p.marked.stands.long)) numbered;
        low = low lowest;
        own = own lowest;
        left = λ u j h l q.
            left_class (asks_few most n w old a) lowest (input_of most v u j)
            (clean_inputs most n w old a list p.marked v p.cleaned u h (unmarked u h l) j q);
      }
    where
      unmarked : (u : ℕ) → u < n → c u < n → Marked list u → ⊥
      unmarked u h l = left_unmarked most n w old a list p.marked u (class_left (asks_few most n w old a) lowest u h l)

  module _ (x : List ℕ) (g : Gathered most n filled v x) where
    words : MendedWords most (left most w) c n w x
    words =
        gathered_mended most n list w v p.cleaned p.marked.ends c x
        (λ u h l. left_unmarked most n w old a list p.marked u (class_left (asks_few most n w old a) lowest u h l))
        (g.words c listing)

    done : MendDone most w old x filled dropped wires (n - dropped - wires - kept) cleared
    done =
        let e : taken most w ≡ n = sym a.counted in
        record {
          words = a.words;
          long = rw e a.entries;
          class = c;
          lowest = rw e lowest;
          box = b;
          boxes = rw e boxes;
          stored = rw e words;
          listing = rw e (over_other (listed n c) n old list filled a.entries p.marked.stands.long p.marked.stands.past numbered);
          drops = rw e drops;
          wired = rw e wired;
          merges = rw e merges;
          clears = rw e (clears_class most n w old list p.marked (store_graph most v) f.classes f.sorted same dropped wires cleared p.counts);
        }

    pub done_says : (r : Mended) → r ≡ record { number = 0; dropped = dropped; wires = wires; merged = n - dropped - wires - kept; cleared = cleared } → MendSays most w old r x filled
    done_says r q = rw q (mend_done done)
