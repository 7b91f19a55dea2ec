-- A row by value and its inputs: all gone or not, listed or not, met one after another; and so of a row of a view.
use Prim.Native.Nat.{ℕ, ◌+◌, ◌≤◌, ◌<◌, ◌/◌}
use native.Mathlib.Omega.{arith}
use native.Mathlib.Decide.{dec_lt, ℕ_discrete}
use mathlib.Core.Path.{◌≡◌, refl, sym, ap, ◌∙◌}
use mathlib.Core.Bool.{Bool, true, false, not}
use mathlib.Core.List.{List}
use Rattle.std.specs.Prelude.{Ok, Err}
use lib.ListN.{length, get_or, set, length-set}
use lib.Seq.{get_or-set_same, get_or-set_other}
use borrow.Author.Count.{below_more}
use Rattle.rules.specs.Answers.{Says, says_yes, says_no}
use Rattle.rules.specs.Lists.{widest}
use Rattle.rules.proofs.Answers.{says_same}
use Rattle.rules.proofs.Tested.{passed_yes, passed_no}
use Rattle.trees.specs.Graph.{Graph}
use Rattle.store.specs.declared.row.Row.{Row}
use Rattle.rows.specs.Joined.{Source, source, drawn, row_in}
use Rattle.rows.specs.View.{Drawn, view_rows}
use Rattle.rows.proofs.Rows.{in_label, in_count, in_input}
use Rattle.rows.proofs.View.{laid_counts, laid_closed}
use Rattle.judging.specs.declared.misfit.Misfit.TheVariants.{NotListed}
use Rattle.judging.specs.Verdicts.{state_of}
use Rattle.judging.specs.Moves.{Moved, moved_none, moved_more, Looked, looked_quiet}
use Rattle.judging.specs.Rules.{AllThere, AllGone, ListedAs, meeting_these, meeting, Peels, peels_hold, peels_gone, peeling}
use Rattle.judging.specs.Queues.{Queueing, Askable, AllAskable, Meets, met_before, meets_now, TheseMet, Starting, RowSays, row_wrong, row_met}
use Rattle.judging.proofs.Passes.{looked_one}
use Rattle.judging.proofs.Listing.{listed_row}

-- ---- all gone

module _ (state inputs : List ℕ) where
  pub gone_none : AllGone state inputs 0
  gone_none = record { each = λ j h. absurd (omega arith) }

  module _ (count j x : ℕ) (s : AllGone state inputs j) (e : x ≡ state_of state (get_or inputs j 0)) where
    pub gone_more : x ≡ 2 → AllGone state inputs (j + 1)
    gone_more q = record { each = below_more _ _ s.each (sym e ∙ q) }

    pub gone_not : j < count → (x ≡ 2 → ⊥) → Says (AllGone state inputs count) false
    gone_not h f = says_no (λ a. f (e ∙ a.each j h))

  pub input_room : (count j : ℕ) → AllThere state inputs count → j < count → j < widest
  input_room count j t h = omega (arith, t.few)

  pub input_there : (count j : ℕ) → AllThere state inputs count → j < count → get_or inputs j 0 < length state
  input_there count j t h = t.each j h

  pub gone_all : (count j : ℕ) → AllGone state inputs j → count ≤ j → Says (AllGone state inputs count) true
  gone_all count j s h = says_yes (record { each = λ i l. s.each i (omega arith) })

-- ---- met one after another

-- a row that has been met is met still
module _ (inputs : List ℕ) (count : ℕ) where
  these_kept : {old new : List ℕ} → Moved (meeting_these inputs count) old new → (x : ℕ) → (state_of old x ≡ 0 → ⊥) → state_of new x ≡ 0 → ⊥
  unfolding meeting_these
  these_kept moved_none x f z = f z
  these_kept (moved_more {mid = mid} {u = u} t h e p) x f z = go (λ k. these_kept t x f k) (ℕ_discrete x u)
    where
      go : (state_of mid x ≡ 0 → ⊥) → Dec (x ≡ u) → ⊥
      go k (yes q) = let o : state_of (set mid u 1) x ≡ 1 = rw q (get_or-set_same mid u 1 0 h) in omega arith
      go k (no q) = k (sym (get_or-set_other mid u x 1 0 q) ∙ z)

  -- one more is met
  these_on : {old mid : List ℕ} (j : ℕ) → j < count → Moved (meeting_these inputs count) old mid → get_or inputs j 0 < length mid → state_of mid (get_or inputs j 0) ≡ 0
      → Moved (meeting_these inputs count) old (set mid (get_or inputs j 0) 1)
  unfolding meeting_these
  these_on j h t l e = moved_more t l e (record { place = j; of_row = h; is = refl })

module _ (stored : ℕ) (inputs : List ℕ) (count : ℕ) (old oldq : List ℕ) (filled : ℕ) where
  pub these_none : Queueing stored old oldq filled → TheseMet stored inputs count old oldq filled 0 old oldq filled
  these_none q =
      record {
        moved = moved_none;
        same = refl;
        each = λ i h. absurd (omega arith);
        queued = q;
        longer = record { more = omega arith; kept = λ i h. refl };
      }

  module _ (a : AllAskable stored old inputs count) (j : ℕ) (h : j < count) where
    pub these_room : j < widest
    these_room = omega (arith, a.few)

    module _ (state queue : List ℕ) (now : ℕ) (s : TheseMet stored inputs count old oldq filled j state queue now) where
      pub these_queued : Queueing stored state queue now
      these_queued = s.queued

      pub these_askable : Askable stored state (get_or inputs j 0)
      these_askable =
          record {
            there = omega (arith, (a.each j h).there, s.same);
            low = λ z. (a.each j h).low (go z (ℕ_discrete (state_of old (get_or inputs j 0)) 0));
          }
        where
          go : state_of state (get_or inputs j 0) ≡ 0 → Dec (state_of old (get_or inputs j 0) ≡ 0) → state_of old (get_or inputs j 0) ≡ 0
          go z (yes q) = q
          go z (no q) = absurd (these_kept inputs count s.moved (get_or inputs j 0) q z)

      pub these_more : (state' queue' : List ℕ) (now' : ℕ) → Meets stored state queue now (get_or inputs j 0) state' queue' now'
          → TheseMet stored inputs count old oldq filled (j + 1) state' queue' now'
      these_more state' queue' now' m = go m
        where
          go : {state' queue' : List ℕ} {now' : ℕ} → Meets stored state queue now (get_or inputs j 0) state' queue' now'
              → TheseMet stored inputs count old oldq filled (j + 1) state' queue' now'
          go (met_before f) =
              record {
                moved = s.moved;
                same = s.same;
                each = below_more _ _ s.each f;
                queued = s.queued;
                longer = s.longer;
              }
          go (meets_now e l q o) =
              record {
                moved = these_on inputs count j h s.moved l e;
                same = length-set state (get_or inputs j 0) 1 ∙ s.same;
                each = below_more _ _ (λ i b. still i b (ℕ_discrete (get_or inputs i 0) (get_or inputs j 0))) (λ z. let w = here in omega arith);
                queued = q;
                longer = record {
                  more = omega (arith, s.longer.more, o.more);
                  kept = λ i b. o.kept i (omega (arith, s.longer.more)) ∙ s.longer.kept i b;
                };
              }
            where
              here : state_of (set state (get_or inputs j 0) 1) (get_or inputs j 0) ≡ 1
              here = get_or-set_same state (get_or inputs j 0) 1 0 l

              still : (i : ℕ) → i < j → Dec (get_or inputs i 0 ≡ get_or inputs j 0) → state_of (set state (get_or inputs j 0) 1) (get_or inputs i 0) ≡ 0 → ⊥
              still i b (yes p) z = let w : state_of (set state (get_or inputs j 0) 1) (get_or inputs i 0) ≡ 1 = rw p here in omega arith
              still i b (no p) z = s.each i b (sym (get_or-set_other state (get_or inputs j 0) (get_or inputs i 0) 1 0 p) ∙ z)

  pub these_done : (j : ℕ) (state queue : List ℕ) (now : ℕ) → TheseMet stored inputs count old oldq filled j state queue now → count ≤ j
      → TheseMet stored inputs count old oldq filled count state queue now
  these_done j state queue now s h =
      record { moved = s.moved; same = s.same; each = λ i b. s.each i (omega arith); queued = s.queued; longer = s.longer }

-- ---- a row of a view

module _ (s : Source) (table : List ℕ) (v : Drawn s table) (u : ℕ) (h : u < view_rows s table) (row : Row) (e : row ≡ row_in (drawn s) u) where
  few : (drawn s).count u ≤ widest
  few = laid_counts v.laid u h

  counted : row.count ≡ (drawn s).count u
  counted = rw e (in_count (drawn s) u)

  input : (j : ℕ) → j < (drawn s).count u → get_or row.inputs j 0 ≡ (drawn s).input u j
  input j l = rw e (in_input (drawn s) u few j l)

  label : row.label ≡ (drawn s).label u
  label = rw e (in_label (drawn s) u)

  leads : (j : ℕ) → j < row.count → get_or row.inputs j 0 < view_rows s table
  leads j l =
      let q : j < (drawn s).count u = omega (arith, counted) in
      omega (arith, input j q, (laid_closed v.laid).within u j h q)

  -- ---- it may go, or not

  module _ (state : List ℕ) (long : view_rows s table ≤ length state) where
    pub inputs_there : AllThere state row.inputs row.count
    inputs_there = record { few = omega (arith, counted, few); each = λ j l. omega (arith, leads j l) }

    pub peels_held : row.label / 65536 ≡ 6 → Says (Peels (drawn s) state u) true
    peels_held q = says_yes (peels_hold (record { is = ap (λ x. x / 65536) (sym label) ∙ q }))

    pub peels_told : (row.label / 65536 ≡ 6 → ⊥) → (r : Bool) → Says (AllGone state row.inputs row.count) r → Says (Peels (drawn s) state u) r
    peels_told f r a = says_same (there, back) a
      where
        there : AllGone state row.inputs row.count → Peels (drawn s) state u
        there g = peels_gone (λ j l. ap (state_of state) (sym (input j l)) ∙ g.each j (omega (arith, counted)))

        back : Peels (drawn s) state u → AllGone state row.inputs row.count
        back (peels_hold q) = absurd (f (ap (λ x. x / 65536) label ∙ q.is))
        back (peels_gone g) =
            record { each = λ j l. let q : j < (drawn s).count u = omega (arith, counted) in ap (state_of state) (input j q) ∙ g j q }

-- ---- its inputs are met

module _ (s : Source) (table old oldq : List ℕ) (filled : ℕ) (b : Starting s table old oldq filled)
    (u : ℕ) (h : u < view_rows s table) (m : state_of old u ≡ 1) (row : Row) (e : row ≡ row_in (drawn s) u) where
  inputs_askable : AllAskable s.stored old row.inputs row.count
  inputs_askable =
      record {
        few = let t = inputs_there s table b.view u h row e old b.long in t.few;
        each = λ j l. ask (get_or row.inputs j 0) (leads s table b.view u h row e j l);
      }
    where
      ask : (x : ℕ) → x < view_rows s table → Askable s.stored old x
      ask x k = record { there = omega (arith, b.long); low = λ z. go z (lt_or x) }
        where
          lt_or : (x : ℕ) → Dec (x < s.stored)
          lt_or x = dec_lt x s.stored

          go : state_of old x ≡ 0 → Dec (x < s.stored) → x < s.stored
          go z (yes l) = l
          go z (no l) = let o = b.sheet x (omega arith) k in absurd (omega arith)

  -- row u stays met while its inputs are met
  still : {new : List ℕ} → Moved (meeting_these row.inputs row.count) old new → state_of new u ≡ 1
  unfolding meeting_these
  still moved_none = m
  still (moved_more {mid = mid} {u = x} t l z p) = go (still t) (ℕ_discrete u x)
    where
      go : state_of mid u ≡ 1 → Dec (u ≡ x) → state_of (set mid x 1) u ≡ 1
      go q (yes w) = let o : state_of mid x ≡ 1 = rw w at q in absurd (omega arith)
      go q (no w) = get_or-set_other mid x u 1 0 w ∙ q

  meets : {new : List ℕ} → Moved (meeting_these row.inputs row.count) old new → Moved (meeting (drawn s) (view_rows s table)) old new
  unfolding meeting_these meeting
  meets moved_none = moved_none
  meets (moved_more t l z p) =
      let q : p.place < (drawn s).count u = omega (arith, p.of_row, counted s table b.view u h row e) in
      moved_more (meets t) l z
      (record {
        row = u;
        within = h;
        met = still t;
        input = p.place;
        of_row = q;
        is = sym (input s table b.view u h row e p.place q) ∙ p.is;
      })

  module _ (r : Bool) (l : Says (ListedAs row.label row.count) r) where
    pub row_unlisted : not r ≡ true → RowSays s table old oldq filled u old oldq (Err NotListed)
    row_unlisted n = row_wrong (passed_no (listed_row (drawn s) u row e r l) n)

    pub row_visited : not r ≡ false → (state queue : List ℕ) (now : ℕ)
        → TheseMet s.stored row.inputs row.count old oldq filled row.count state queue now → RowSays s table old oldq filled u state queue (Ok now)
    row_visited n state queue now t =
        row_met
        (record { moved = meets t.moved; same = t.same; queued = t.queued })
        t.longer
        (record {
          listed = passed_yes (listed_row (drawn s) u row e r l) n;
          inputs = λ j k z. t.each j (omega (arith, counted s table b.view u h row e)) (ap (state_of state) (input s table b.view u h row e j k) ∙ z);
        })

-- the same, of a store and a sheet by their names
pub inputs_asked : (most : ℕ) (w : List ℕ) (stored : ℕ) (b table old oldq : List ℕ) (filled : ℕ) → Starting (source most w stored b) table old oldq filled
    → (u : ℕ) → u < view_rows (source most w stored b) table → state_of old u ≡ 1 → (row : Row) → row ≡ row_in (drawn (source most w stored b)) u
    → AllAskable stored old row.inputs row.count
inputs_asked most w stored b table old oldq filled t u h m row e = inputs_askable (source most w stored b) table old oldq filled t u h m row e

-- ---- a row of the sheet looked at

module _ (g : Graph) (old : List ℕ) (u x : ℕ) (e : x ≡ state_of old u) where
  pub looked_other : (x ≡ 1 → ⊥) → Looked (peeling g) old u (u + 1) old false
  unfolding peeling
  looked_other f = looked_quiet (λ k a b. let y : k ≡ u = omega arith in record { stays = λ q p. f (e ∙ (rw y at q)) }) refl

  module _ (q : x ≡ 1) (r : Bool) (p : Says (Peels g old u) r) where
    pub looked_not : not r ≡ true → Looked (peeling g) old u (u + 1) old false
    unfolding peeling
    looked_not n = looked_quiet (λ k a b. let y : k ≡ u = omega arith in record { stays = λ i z. passed_no p n (rw y at z) }) refl

    pub looked_taken : (n : ℕ) → u < n → n ≤ length old → not r ≡ false → Looked (peeling g) old u (u + 1) (set old u 2) true
    unfolding peeling
    looked_taken n h l m = looked_one {rule = peeling g} (omega arith) (sym e ∙ q) (passed_yes p m)
