-- The verdict from what was met and what is left, and the order in which the store rows met are left.
use Prim.Native.Nat.{ℕ, ◌≤◌, ◌<◌}
use native.Mathlib.Omega.{arith}
use native.Mathlib.Decide.{dec_lt}
use mathlib.Core.Path.{◌≡◌, refl}
use mathlib.Core.Bool.{Bool, true, false}
use mathlib.Core.List.{List}
use mathlib.Core.Logic.{◌⊎◌, inl, inr}
use lib.ListN.{get_or}
use Rattle.std.specs.Prelude.{Result, Ok, Err}
use Rattle.rules.proofs.Answers.{said_yes, said_no}
use Rattle.trees.specs.Graph.{Closed}
use Rattle.trees.proofs.Paths.{leads_trans, leads_within}
use Rattle.loops.specs.Loops.{Loop, Unheld}
use Rattle.loops.specs.Orders.{StandsIn}
use Rattle.rows.specs.Joined.{Source, drawn}
use Rattle.rows.specs.View.{view_rows}
use Rattle.rows.proofs.View.{laid_closed, laid_alone}
use Rattle.judging.specs.declared.misfit.Misfit.{Misfit}
use Rattle.judging.specs.declared.misfit.Misfit.TheVariants.{NotListed, NotHeld}
use Rattle.judging.specs.Verdicts.{state_of, SomeMarked, SomeUnlisted, SomeUnheld, says_unlisted, says_unheld, says_fine, Led, Begun}
use Rattle.judging.specs.Rules.{meeting, peeling, Peeled}
use Rattle.judging.specs.Rules as rules
use Rattle.judging.specs.Queues.{Starting, AllVisited, MeetSays, meet_wrong, meet_done}
use Rattle.judging.specs.Sifts.{QueueSifted}
use Rattle.judging.specs.Left.{LeftBetween, SheetLeft, MetInOrder, HeldSays, held_not, held_fine, left_order, left_unlisted, left_unheld as no-order, Judges}
use Rattle.judging.proofs.Passes.{moved_on}
use Rattle.judging.proofs.Visiting.{starting_begun}
use Rattle.judging.proofs.Reached.{met_led, met_leads, led_met}
use Rattle.judging.proofs.Gone.{moved_stays, moved_was, moved_seen, left_was, left_unheld, loop_left}

-- ---- rows taken away

module _ (s : Source) (table met oldq : List ℕ) (filled : ℕ) (a : AllVisited s table met oldq filled)
    (mid queue : List ℕ) (left : ℕ) (q : QueueSifted (drawn s) s.stored filled met mid queue left) where
  closed : Closed (drawn s) (view_rows s table)
  closed = laid_closed a.view.laid

  -- an input of a met row is met
  inputs : (u j : ℕ) → u < view_rows s table → state_of met u ≡ 1 → j < (drawn s).count u → state_of met ((drawn s).input u j) ≡ 1
  inputs u j h m l = one ((a.each u h m).inputs j l) (a.low ((drawn s).input u j) (closed.within u j h l))
    where
      one : {x : ℕ} → (x ≡ 0 → ⊥) → x ≤ 1 → x ≡ 1
      one f k = omega arith

  -- a store row that is left waits
  waits : (u : ℕ) → u < s.stored → state_of mid u ≡ 1 → (k : ℕ) → left ≤ k → StandsIn queue 0 k u → k ≤ filled → 0 < left
  waits u h m k b t f = go (dec_lt t.place left)
    where
      go : Dec (t.place < left) → 0 < left
      go (yes l) = omega arith
      go (no l) =
          let z : state_of mid u ≡ 2 = rw t.is at (q.sifting.gone t.place (omega arith) (omega (arith, t.high))) in
          absurd (omega arith)

  stored_peeled : Peeled (drawn s) s.stored met mid
  unfolding peeling
  stored_peeled = record { moved = q.moved; quiet = λ u h. record { stays = λ m p. go u h m p (q.sifting.all u h (λ z. omega arith)) } }
    where
      go : (u : ℕ) → u < s.stored → state_of mid u ≡ 1 → rules.Peels (drawn s) mid u → StandsIn queue 0 filled u → ⊥
      go u h m p t = at (dec_lt t.place left)
        where
          at : Dec (t.place < left) → ⊥
          at (yes l) = q.still t.place l (rw t.is p)
          at (no l) =
              let z : state_of mid u ≡ 2 = rw t.is at (q.sifting.gone t.place (omega arith) t.high) in
              omega arith

  -- a row of the store is left
  pub held_stored : (c : ℕ) → c < left → (queue' : List ℕ) → HeldSays s table met queue' (Err NotHeld)
  held_stored c h queue' = held_not (go (get_or queue 0 0) low (q.sifting.waits 0 (omega arith)))
    where
      low : get_or queue 0 0 < s.stored
      low = q.sifting.once.within 0 (omega (arith, q.sifting.least))

      go : (u : ℕ) → u < s.stored → state_of mid u ≡ 1 → SomeMarked (view_rows s table) met (Unheld (drawn s))
      go u l m =
          let c = laid_alone a.view.laid in
          let i : (u j : ℕ) → u < s.stored → state_of met u ≡ 1 → j < (drawn s).count u → state_of met ((drawn s).input u j) ≡ 1
          = λ u j b. inputs u j (omega arith) in
          record {
            row = u;
            within = omega arith;
            is = record {
              marked = left_was (drawn s) s.stored c stored_peeled i u m;
              holds = left_unheld (drawn s) s.stored c stored_peeled i u l m;
            };
          }

  -- no row of the store is left
  module _ (none : left ≤ 0) where
    stored_gone : (u : ℕ) → u < s.stored → state_of mid u ≡ 1 → ⊥
    stored_gone u h m = let b = waits u h m filled (omega arith) (q.sifting.all u h (λ z. omega arith)) (omega arith) in omega arith

    was_met : (u : ℕ) → u < view_rows s table → (state_of mid u ≡ 0 → ⊥) → state_of met u ≡ 1
    was_met u h f = one (λ z. f (moved_seen (drawn s) (view_rows s table) closed q.moved u z)) (a.low u h)
      where
        one : {x : ℕ} → (x ≡ 0 → ⊥) → x ≤ 1 → x ≡ 1
        one f k = omega arith

    is_met : (u : ℕ) → state_of met u ≡ 1 → state_of mid u ≡ 0 → ⊥
    is_met u m z = go (moved_stays (drawn s) (view_rows s table) closed q.moved u m)
      where
        go : (state_of mid u ≡ 1) ⊎ (state_of mid u ≡ 2) → ⊥
        go (inl x) = omega arith
        go (inr x) = omega arith

    in_order : MetInOrder (drawn s) s.stored met queue filled
    in_order =
        record {
          ordered = record {
            all = λ k j h l.
                let b = low k h in
                let o = (laid_alone a.view.laid).within (get_or queue k 0) j b l in
                q.sifting.all ((drawn s).input (get_or queue k 0) j) o
                (is_met ((drawn s).input (get_or queue k 0) j) (inputs (get_or queue k 0) j (omega arith) (row_met k h) l));
            behind = λ k j h f l. q.sifting.behind k j (omega arith) h f l;
          };
          few = q.sifting.once.least;
          each = λ k h. (low k h, row_met k h);
          all = λ u h m. q.sifting.all u h (is_met u m);
        }
      where
        low : (k : ℕ) → k < filled → get_or queue k 0 < s.stored
        low k h = q.sifting.once.within k h

        row_met : (k : ℕ) → k < filled → state_of met (get_or queue k 0) ≡ 1
        row_met k h = let b = low k h in was_met (get_or queue k 0) (omega arith) (λ z. let g = q.sifting.gone k (omega arith) h in omega arith)

    module _ (t : Bool) (l : SheetLeft (drawn s) s.stored (view_rows s table) mid t) where
      all_peeled : Peeled (drawn s) (view_rows s table) met l.left
      unfolding peeling
      all_peeled =
          record { moved = moved_on q.moved l.peeled.moved; quiet = λ u h. go u h (dec_lt u s.stored) }
        where
          go : (u : ℕ) → u < view_rows s table → Dec (u < s.stored) → rules.Stays (drawn s) l.left u
          go u h (no k) = l.peeled.quiet u (omega arith) h
          go u h (yes k) =
              record { stays = λ m p. stored_gone u k (moved_was (drawn s) (view_rows s table) closed l.peeled.moved u m) }

      pub held_sheet : t ≡ true → (queue' : List ℕ) → HeldSays s table met queue' (Err NotHeld)
      held_sheet e queue' = held_not (go (said_yes (rw e at l.says)))
        where
          go : LeftBetween s.stored (view_rows s table) l.left → SomeMarked (view_rows s table) met (Unheld (drawn s))
          go x =
              record {
                row = x.row;
                within = x.high;
                is = record {
                  marked = left_was (drawn s) (view_rows s table) closed all_peeled inputs x.row x.left;
                  holds = left_unheld (drawn s) (view_rows s table) closed all_peeled inputs x.row x.high x.left;
                };
              }

      pub held_all : t ≡ false → HeldSays s table met queue (Ok filled)
      held_all e = held_fine none_left in_order
        where
          none_left : SomeMarked (view_rows s table) met (Loop (drawn s)) → ⊥
          none_left m =
              let z = loop_left (drawn s) (view_rows s table) closed all_peeled inputs (λ u b c. let k = a.low u b in omega arith)
              m.row m.within m.is.marked m.is.holds in
              go z (dec_lt m.row s.stored)
            where
              go : state_of l.left m.row ≡ 1 → Dec (m.row < s.stored) → ⊥
              go z (yes k) = stored_gone m.row k (moved_was (drawn s) (view_rows s table) closed l.peeled.moved m.row z)
              go z (no k) = said_no (rw e at l.says) (record { row = m.row; low = omega arith; high = m.within; left = z })

-- ---- what meeting said, as it is handed on

module _ {s : Source} {table old mid midq : List ℕ} where
  pub told_wrong : {r : Result ℕ Misfit} (d : Misfit) → MeetSays s table old mid midq r → (r ≡ Err NotListed → d ≡ NotListed) → ((k : ℕ) → r ≡ Ok k → ⊥) → MeetSays s table old mid midq (Err d)
  told_wrong d x f g = go x f g
    where
      go : {r : Result ℕ Misfit} → MeetSays s table old mid midq r → (r ≡ Err NotListed → d ≡ NotListed) → ((k : ℕ) → r ≡ Ok k → ⊥) → MeetSays s table old mid midq (Err d)
      go (meet_wrong w) f g = rw (f refl) (meet_wrong w)
      go (meet_done {now} m a) f g = absurd (g now refl)

  pub told_met : {r : Result ℕ Misfit} (now : ℕ) → MeetSays s table old mid midq r → (r ≡ Err NotListed → ⊥) → ((k : ℕ) → r ≡ Ok k → now ≡ k) → MeetSays s table old mid midq (Ok now)
  told_met now x f g = go x f g
    where
      go : {r : Result ℕ Misfit} → MeetSays s table old mid midq r → (r ≡ Err NotListed → ⊥) → ((k : ℕ) → r ≡ Ok k → now ≡ k) → MeetSays s table old mid midq (Ok now)
      go (meet_wrong w) f g = absurd (f refl)
      go (meet_done {now = k} m a) f g = rw (g k refl) (meet_done m a)

-- ---- from the starts on

module _ (s : Source) (table old oldq : List ℕ) (filled : ℕ) (b : Starting s table old oldq filled)
    (mid midq : List ℕ) where
  pub verdict_unlisted : (queue : List ℕ) (d : Misfit) → MeetSays s table old mid midq (Err d) → Judges s table old queue (Err d)
  verdict_unlisted queue d x = go x
    where
      go : {d : Misfit} → MeetSays s table old mid midq (Err d) → Judges s table old queue (Err d)
      go (meet_wrong w) = record { says = says_unlisted (one (met_led (drawn s) (view_rows s table) w.moved w.row w.within w.met)); order = left_unlisted }
        where
          one : Led (drawn s) (view_rows s table) old w.row → SomeUnlisted (drawn s) (view_rows s table) old
          one a =
              record {
                row = a.start;
                within = a.within;
                is = record { marked = a.marked; holds = record { row = w.row; leads = a.leads; wrong = w.unfit } };
              }

  module _ (now : ℕ) (x : MeetSays s table old mid midq (Ok now)) where
    pub verdict_visited : AllVisited s table mid midq now
    verdict_visited = go x
      where
        go : MeetSays s table old mid midq (Ok now) → AllVisited s table mid midq now
        go (meet_done m a) = a

    all_met : rules.Met (drawn s) (view_rows s table) old mid
    unfolding meeting
    all_met = go x
      where
        go : MeetSays s table old mid midq (Ok now) → rules.Met (drawn s) (view_rows s table) old mid
        go (meet_done m a) = record { moved = m.moved; quiet = λ u h. record { each = λ k j l. (a.each u h k).inputs j l } }

    begun : Begun (view_rows s table) old
    begun = starting_begun s table b

    shut : Closed (drawn s) (view_rows s table)
    shut = laid_closed b.view.laid

    listed : SomeUnlisted (drawn s) (view_rows s table) old → ⊥
    listed m =
        let y = m.is.holds in
        y.wrong
        (verdict_visited.each y.row (leads_within shut m.within y.leads)
        (led_met (drawn s) (view_rows s table) shut begun all_met m.within m.is.marked y.leads)).listed

    pub verdict_told : (queue : List ℕ) (v : Result ℕ Misfit) → HeldSays s table mid queue v → Judges s table old queue v
    verdict_told queue v h = go h
      where
        go : {v : Result ℕ Misfit} → HeldSays s table mid queue v → Judges s table old queue v
        go (held_not m) = record { says = says_unheld listed (one (met_leads (drawn s) (view_rows s table) shut begun all_met m.row m.within m.is.marked)); order = no-order }
          where
            one : Led (drawn s) (view_rows s table) old m.row → SomeUnheld (drawn s) (view_rows s table) old
            one a =
                let y = m.is.holds in
                record {
                  row = a.start;
                  within = a.within;
                  is = record { marked = a.marked; holds = record { row = y.row; leads = leads_trans a.leads y.leads; loop = y.loop } };
                }
        go (held_fine f o) =
            record {
              says = says_fine listed
                  (λ m. let y = m.is.holds in
                  f
                  (record {
                    row = y.row;
                    within = leads_within shut m.within y.leads;
                    is = record {
                      marked = led_met (drawn s) (view_rows s table) shut begun all_met m.within m.is.marked y.leads;
                      holds = y.loop;
                    };
                  }));
              order = left_order
                  (record {
                    ordered = o.ordered;
                    few = o.few;
                    within = λ k h. (o.each k h).0;
                    led = λ k h. let l = (o.each k h).0 in
                        met_leads (drawn s) (view_rows s table) shut begun all_met (get_or queue k 0) (omega arith) (o.each k h).1;
                    all = λ u h a. o.all u h (led_met (drawn s) (view_rows s table) shut begun all_met a.within a.marked a.leads);
                  });
            }
