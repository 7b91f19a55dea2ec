-- A row is marked exactly if it is dropped.
use Rattle.std.proofs.Common.{ℕ, ◌≤◌, ◌<◌, arith, ◌≡◌, ◌∙◌, List, length}
use native.Mathlib.Decide.{dec_lt, ℕ_discrete}
use Rattle.trees.specs.Paths.{Leads}
use Rattle.trees.proofs.Paths.{leads_trans}
use Rattle.wires.specs.Wires.{Wire, follow, through, most_wires}
use Rattle.wires.proofs.WireLoops.{Astray, loop_wires}
use Rattle.wires.proofs.Among.{Among, among_follow, among_leads, among_loop, among_stays, among_through}
use Rattle.store.specs.Layout.{count_of, input_of, store_graph}
use Rattle.mends.specs.Dropped.{Spoiled, crowded, astray, wired_wrong, looping, Dropped}
use Rattle.mends.specs.Entries.{entry_of, Marked}
use Rattle.mends.proofs.Left.{few_rows}
use Rattle.spoiling.specs.Own.{OwnFault, OwnMarked}
use Rattle.spoiling.specs.Own as own
use Rattle.dropping.specs.Dropping.{DropAsks, ToMarked, Still, Settled}
use Rattle.jumping.specs.Jumps.{JumpsAsk, Led}
use Rattle.marking.specs.Marking.{MarkAsks, HalfMarked, PastStands, RowsMarked}

-- ---- a row spoiled by itself is spoiled

own_spoiled : {most : ℕ} {w : List ℕ} {n u : ℕ} → OwnFault most w n u → Spoiled most w n u
own_spoiled (own.crowded h) = crowded h
own_spoiled (own.astray m) = astray m.used m.past
own_spoiled (own.wired_wrong m) = wired_wrong m.wire m.count

-- what leads to a dropped row is dropped
leads_dropped : {most : ℕ} {w : List ℕ} {n u v : ℕ} → Leads (store_graph most w) u v → Dropped most w n v → Dropped most w n u
leads_dropped l d = record { row = d.row; within = d.within; spoiled = d.spoiled; leads = leads_trans l d.leads }

-- a row that is not spoiled by itself
module _ {most : ℕ} {w : List ℕ} {n u : ℕ} (f : OwnFault most w n u → ⊥) where
  fine_few : count_of most w u ≤ most
  fine_few = go (dec_lt most (count_of most w u))
    where
      go : Dec (most < count_of most w u) → count_of most w u ≤ most
      go (yes q) = absurd (f (own.crowded q))
      go (no q) = omega arith

  fine_input : (j : ℕ) → j < count_of most w u → input_of most w u j < n
  fine_input j h = go (dec_lt (input_of most w u j) n)
    where
      go : Dec (input_of most w u j < n) → input_of most w u j < n
      go (yes q) = q
      go (no q) = absurd (f (own.astray (record { place = j; used = h; past = omega arith })))

  fine_wire : Wire (store_graph most w) u → count_of most w u ≡ 1
  fine_wire x = go (ℕ_discrete (count_of most w u) 1)
    where
      go : Dec (count_of most w u ≡ 1) → count_of most w u ≡ 1
      go (yes q) = q
      go (no q) = absurd (f (own.wired_wrong (record { wire = x; count = q })))

-- ---- the first half

module _ (most n : ℕ) (w old : List ℕ) (a : MarkAsks most n w old) where
  module _ (mid : List ℕ) (s : OwnMarked most n w old mid n) where
    pub own_asks : DropAsks most n w mid
    own_asks =
        record {
          limit = a.limit;
          room = a.room;
          entries = omega (arith, a.entries, s.long);
          few = λ u h f. fine_few (s.fine u h f);
          inputs = λ u h f. fine_input (s.fine u h f);
        }

    module _ (new : List ℕ) (t : Settled most n w mid new) where
      pub half_marked : HalfMarked most n w new
      half_marked =
          record {
            dropped = λ u h m. gone (t.spread.leads u h m);
            fine = λ u h f. s.fine u h (λ m. f (t.spread.marks u m));
            still = t.still;
          }
        where
          gone : {u : ℕ} → ToMarked most n w mid u → Dropped most w n u
          gone x = record { row = x.row; within = x.within; spoiled = own_spoiled (s.fault x.row x.within x.marked); leads = x.leads }

      pub half_stands : PastStands n old new
      half_stands = record { long = t.spread.long ∙ s.long; past = λ u h. t.spread.past u h ∙ s.rest u h }

-- ---- rows that are not marked

pub record Unmarked (n : ℕ) (list : List ℕ) (u : ℕ) : Type 0 where
  pub low : u < n
  pub not : Marked list u → ⊥

-- no row is to be marked, and none that is not is spoiled by itself: the rows not marked lead to rows not marked
unmarked_among : {most n : ℕ} {w list : List ℕ} → ((u : ℕ) → u < n → (Marked list u → ⊥) → OwnFault most w n u → ⊥) → Still most n w list
    → Among (store_graph most w) n (Unmarked n list)
unfolding store_graph
unmarked_among {most} {n} {w} {list} fine still =
    record {
      low = λ u p. p.low;
      inputs = λ u j p h.
          record {
            low = fine_input (fine u p.low p.not) j h;
            not = λ m. still.each u p.low p.not (record { place = j; used = h; marked = m });
          };
      wires = λ u p x. let e = fine_wire (fine u p.low p.not) x in omega arith;
    }

-- ---- the second half

module _ (most n : ℕ) (w old : List ℕ) (a : MarkAsks most n w old) (s : HalfMarked most n w old) where
  few : n ≤ 1024
  few = few_rows most n (length w) a.room

  among : Among (store_graph most w) n (Unmarked n old)
  among = unmarked_among s.fine s.still

  pub half_jumps : JumpsAsk most n w old
  half_jumps =
      record {
        limit = a.limit;
        some = a.some;
        room = a.room;
        entries = a.entries;
        within = λ u h f. (among_follow among 1 u (record { low = h; not = f })).low;
        left = λ u h f. (among_follow among 1 u (record { low = h; not = f })).not;
      }

  module _ (mid : List ℕ) (l : Led most n w old mid) where
    was : (u : ℕ) → (Marked mid u → ⊥) → Marked old u → ⊥
    was u f m = f (l.marks u m)

    pub led_asks : DropAsks most n w mid
    led_asks =
        record {
          limit = a.limit;
          room = a.room;
          entries = omega (arith, a.entries, l.long);
          few = λ u h f. fine_few (s.fine u h (was u f));
          inputs = λ u h f. fine_input (s.fine u h (was u f));
        }

    -- a row marked now is dropped: it was marked, or leads to a loop of wires
    led_dropped : (u : ℕ) → u < n → Marked mid u → Dropped most w n u
    led_dropped u h m = go (ℕ_discrete (entry_of old u) 4294967295)
      where
        loops : Unmarked n old u → Astray (store_graph most w) u → Dropped most w n u
        loops p x =
            record {
              row = follow (store_graph most w) x.steps u;
              within = (among_follow among x.steps u p).low;
              spoiled = looping x.loop;
              leads = among_leads among x.steps u p;
            }

        go : Dec (Marked old u) → Dropped most w n u
        go (yes q) = s.dropped u h q
        go (no q) =
            let p : Unmarked n old u = record { low = h; not = q } in
            loops p (among_loop among (omega (arith, few)) u p (l.endless u h q m))

    -- where its wires lead
    led_ends : (u : ℕ) → u < n → (Marked mid u → ⊥) → entry_of mid u ≡ through (store_graph most w) u
    led_ends u h f = among_through among (omega (arith, few)) (record { low = h; not = was u f }) (l.jump u h f) (l.box u h f)

    module _ (new : List ℕ) (t : Settled most n w mid new) where
      were : (u : ℕ) → (Marked new u → ⊥) → Marked mid u → ⊥
      were u f m = f (t.spread.marks u m)

      last : Among (store_graph most w) n (Unmarked n new)
      last = unmarked_among (λ u h f. s.fine u h (was u (were u f))) t.still

      gone : {u : ℕ} → ToMarked most n w mid u → Dropped most w n u
      gone x = leads_dropped x.leads (led_dropped x.row x.within x.marked)

      -- none of the rows not marked is spoiled
      not_spoiled : (u : ℕ) → Unmarked n new u → Spoiled most w n u → ⊥
      not_spoiled u p (crowded x) = s.fine u p.low (was u (were u p.not)) (own.crowded x)
      not_spoiled u p (astray {j} x y) = s.fine u p.low (was u (were u p.not)) (own.astray (record { place = j; used = x; past = y }))
      not_spoiled u p (wired_wrong x y) = s.fine u p.low (was u (were u p.not)) (own.wired_wrong (record { wire = x; count = y }))
      not_spoiled u p (looping x) = l.box u p.low (were u p.not) (rw (led_ends u p.low (were u p.not)) (loop_wires (store_graph most w) x most_wires))

      pub rows_marked : RowsMarked most n w old new
      rows_marked =
          record {
            stands = record { long = t.spread.long ∙ l.long; past = λ u h. t.spread.past u h ∙ l.past u h };
            dropped = λ u h m. gone (t.spread.leads u h m);
            left = λ u h f d. not_spoiled d.row (among_stays last d.leads.path u d.row (record { low = h; not = f }) d.leads.there) d.spoiled;
            ends = λ u h f. t.spread.stands u f ∙ led_ends u h (were u f);
          }
