-- The queue while its rows go: a row that may go is put behind all that wait; passes until none can.
use Prim.Native.Nat.{ℕ, suc, ◌+◌, ◌-◌, ◌≤◌, ◌<◌}
use native.Mathlib.Omega.{arith}
use native.Mathlib.Numerals.{add-one}
use native.Mathlib.Decide.{dec_lt, ℕ_discrete}
use mathlib.Core.Path.{◌≡◌, refl, sym, ap, ◌∙◌}
use mathlib.Core.Bool.{Bool, true, false, not}
use mathlib.Core.List.{List}
use lib.ListN.{length, get_or, set, length-set}
use lib.Seq.{get_or-set_same, get_or-set_other}
use Rattle.rules.specs.Answers.{Says}
use Rattle.rules.proofs.Tested.{passed_yes, passed_no}
use Rattle.trees.specs.Graph.{Graph, Closed}
use Rattle.loops.specs.Loops.{Hold}
use Rattle.loops.specs.Orders.{StandsIn}
use Rattle.judging.specs.Verdicts.{state_of}
use Rattle.judging.specs.Moves.{Moved, moved_none, moved_more}
use Rattle.judging.specs.Rules.{Peels, peels_hold, peels_gone, peeling}
use Rattle.judging.specs.Queues.{Queueing}
use Rattle.judging.specs.Sifts.{Came, came_before, came_up, came_last, came_behind, PutBack, Sifting, PlaceSays, place_stays, place_goes, PassSays, QueueSifted}
use Rattle.judging.proofs.Passes.{moved_on}

-- ---- an entry put back

-- the entries before place i have moved up
pub record MovingUp (k : ℕ) (old : List ℕ) (i : ℕ) (queue : List ℕ) : Type 0 where
  pub low : k ≤ i
  pub long : length queue ≡ length old
  pub before : (p : ℕ) → p < k → get_or queue p 0 ≡ get_or old p 0
  pub up : (p : ℕ) → k ≤ p → p < i → get_or queue p 0 ≡ get_or old (p + 1) 0
  pub rest : (p : ℕ) → i ≤ p → get_or queue p 0 ≡ get_or old p 0

module _ (k m : ℕ) (old : List ℕ) where
  pub up_none : MovingUp k old k old
  up_none = record { low = omega arith; long = refl; before = λ p h. refl; up = λ p h l. absurd (omega arith); rest = λ p h. refl }

  module _ (i : ℕ) (queue : List ℕ) (s : MovingUp k old i queue) (l : m < length old) where
    pub up_there : i < m → i < length queue
    up_there h = omega (arith, s.long)

    pub up_next : i < m → i + 1 < length queue
    up_next h = omega (arith, s.long)

    pub up_more : i < m → (x : ℕ) → x ≡ get_or queue (i + 1) 0 → (new : List ℕ) → new ≡ set queue i x → MovingUp k old (i + 1) new
    up_more h x e new q =
        rw q
        (record {
          low = omega (arith, s.low);
          long = length-set queue i x ∙ s.long;
          before = λ p a. get_or-set_other queue i p x 0 (λ z. omega (arith, s.low)) ∙ s.before p a;
          up = λ p a b. go p a b (ℕ_discrete p i);
          rest = λ p a. get_or-set_other queue i p x 0 (λ z. omega arith) ∙ s.rest p (omega arith);
        })
      where
        go : (p : ℕ) → k ≤ p → p < i + 1 → Dec (p ≡ i) → get_or (set queue i x) p 0 ≡ get_or old (p + 1) 0
        go p a b (yes z) = rw z (get_or-set_same queue i x 0 (up_there h) ∙ e ∙ s.rest (i + 1) (omega arith))
        go p a b (no z) = get_or-set_other queue i p x 0 z ∙ s.up p a (omega arith)

    pub up_last : m < length queue
    up_last = omega (arith, s.long)

    pub up_all : m ≤ i → i ≤ m → (x : ℕ) → x ≡ get_or old k 0 → (new : List ℕ) → new ≡ set queue m x → PutBack k m old new
    up_all h b x e new q =
        rw q (record { long = length-set queue m x ∙ s.long; each = λ p at c. go c })
      where
        go : {p at : ℕ} → Came k m p at → get_or (set queue m x) p 0 ≡ get_or old at 0
        go {p} (came_before a) = get_or-set_other queue m p x 0 (λ z. omega (arith, s.low)) ∙ s.before p a
        go {p} (came_up a c) =
            get_or-set_other queue m p x 0 (λ z. omega arith) ∙ s.up p a (omega arith) ∙ ap (λ y. get_or old y 0) (add-one p)
        go {p} (came_last a) = rw a (get_or-set_same queue m x 0 up_last ∙ e)
        go {p} (came_behind a) = get_or-set_other queue m p x 0 (λ z. omega arith) ∙ s.rest p (omega arith)

came_one : {k m i j p q : ℕ} → k ≤ m → Came k m i p → Came k m j q → p ≡ q → i ≡ j
came_one l (came_before a) (came_before b) e = e
came_one l (came_before a) (came_up b c) e = absurd (omega arith)
came_one l (came_before a) (came_last b) e = absurd (omega arith)
came_one l (came_before a) (came_behind b) e = absurd (omega arith)
came_one l (came_up a d) (came_before b) e = absurd (omega arith)
came_one l (came_up a d) (came_up b c) e = omega arith
came_one l (came_up a d) (came_last b) e = absurd (omega arith)
came_one l (came_up a d) (came_behind b) e = absurd (omega arith)
came_one l (came_last a) (came_before b) e = absurd (omega arith)
came_one l (came_last a) (came_up b c) e = absurd (omega arith)
came_one l (came_last a) (came_last b) e = omega arith
came_one l (came_last a) (came_behind b) e = absurd (omega arith)
came_one l (came_behind a) (came_before b) e = absurd (omega arith)
came_one l (came_behind a) (came_up b c) e = absurd (omega arith)
came_one l (came_behind a) (came_last b) e = absurd (omega arith)
came_one l (came_behind a) (came_behind b) e = e

came_low : {k m i p n : ℕ} → k ≤ m → m < n → i < n → Came k m i p → p < n
came_low l b c (came_before a) = c
came_low l b c (came_up a d) = omega arith
came_low l b c (came_last a) = omega arith
came_low l b c (came_behind a) = c

module _ (k m : ℕ) (l : k ≤ m) (queue new : List ℕ) (s : PutBack k m queue new) where
  record Stood (i : ℕ) : Type 0 where
    at : ℕ
    how : Came k m i at
    same : get_or new i 0 ≡ get_or queue at 0

  stood : (i : ℕ) → Stood i
  stood i = go (dec_lt i k) (dec_lt i m) (ℕ_discrete i m)
    where
      from : (at : ℕ) → Came k m i at → Stood i
      from at c = record { at = at; how = c; same = s.each i at c }

      go : Dec (i < k) → Dec (i < m) → Dec (i ≡ m) → Stood i
      go (yes a) b c = from i (came_before a)
      go (no a) (yes b) c = from (suc i) (came_up (omega arith) b)
      go (no a) (no b) (yes c) = from k (came_last c)
      go (no a) (no b) (no c) = from i (came_behind (omega arith))

  -- an entry behind place m stands
  far : (p : ℕ) → m < p → get_or new p 0 ≡ get_or queue p 0
  far p h = s.each p p (came_behind h)

  -- the entry at place k stands at place m
  second : get_or new m 0 ≡ get_or queue k 0
  second = s.each m k (came_last refl)

  -- where the entry at place p stands now
  stands : (n p : ℕ) → m < n → p < n → StandsIn new 0 n (get_or queue p 0)
  stands n p b c = go (dec_lt p k) (ℕ_discrete p k) (dec_lt m p)
    where
      go : Dec (p < k) → Dec (p ≡ k) → Dec (m < p) → StandsIn new 0 n (get_or queue p 0)
      go (yes a) e d = record { place = p; low = omega arith; high = c; is = s.each p p (came_before a) }
      go (no a) (yes e) d = record { place = m; low = omega arith; high = b; is = rw e second }
      go (no a) (no e) (yes d) = record { place = p; low = omega arith; high = c; is = far p d }
      go (no a) (no e) (no d) =
          let z : suc (p - 1) ≡ p = omega arith in
          let y : Came k m (p - 1) (suc (p - 1)) = came_up (omega arith) (omega arith) in
          record { place = p - 1; low = omega arith; high = omega arith; is = s.each (p - 1) (suc (p - 1)) y ∙ ap (λ x. get_or queue x 0) z }

-- ---- a row goes

pub sift_begin : (g : Graph) (stored : ℕ) (state queue : List ℕ) (filled : ℕ) → Queueing stored state queue filled → Sifting g stored state queue filled filled
sift_begin g stored state queue filled q =
    record {
      once = q.once;
      long = q.long;
      least = omega arith;
      waits = q.met;
      gone = λ i h l. absurd (omega arith);
      all = q.all;
      behind = λ k j h l. absurd (omega arith);
    }

module _ (g : Graph) (stored : ℕ) (state queue : List ℕ) (filled waiting : ℕ) (s : Sifting g stored state queue filled waiting) (k : ℕ) (h : k < waiting) where
  few : waiting ≤ length queue
  few = omega (arith, s.least, s.once.least, s.once.space)

  pub place_there : k < length queue
  place_there = let f = few in omega arith

  pub last_there : waiting - 1 < length queue
  last_there = let f = few in omega arith

  pub place_last : k ≤ waiting - 1
  place_last = omega arith

  module _ (u : ℕ) (e : u ≡ get_or queue k 0) where
    pub place_low : u < stored
    place_low = rw e (s.once.within k (omega (arith, s.least)))

    pub place_state : u < length state
    place_state = let l = place_low in omega (arith, s.long)

    pub place_short : u < 65536
    place_short = let l = place_low in omega (arith, s.once.few)

    pub place_row_lem : (rows : ℕ) → u < stored + rows
    place_row_lem rows = let l = place_low in omega arith

    module _ (r : Bool) (p : Says (Peels g state u) r) where
      pub place_not : not r ≡ true → PlaceSays g stored filled state queue waiting k state queue waiting
      place_not n = place_stays (rw e at (passed_no p n))

      module _ (n : not r ≡ false) (c : Closed g stored) (new : List ℕ) (q : PutBack k (waiting - 1) queue new) where
        sifted : Sifting g stored (set state u 2) new filled (waiting - 1)
        sifted =
            record {
              once = record {
                space = omega (arith, q.long, s.once.space);
                few = s.once.few;
                least = s.once.least;
                within = λ i b. let y = stood k (waiting - 1) place_last queue new q i in
                    rw y.same (s.once.within y.at (came_low place_last mf b y.how));
                apart = λ i j b o z.
                    let y = stood k (waiting - 1) place_last queue new q i in
                    let w = stood k (waiting - 1) place_last queue new q j in
                    came_one place_last y.how w.how
                    (s.once.apart y.at w.at (came_low place_last mf b y.how) (came_low place_last mf o w.how) (sym y.same ∙ z ∙ w.same));
              };
              long = simp length-set s.long;
              least = omega (arith, s.least);
              waits = waits;
              gone = λ i b o. gone i b o (ℕ_discrete i (waiting - 1));
              all = λ v b f. all v b f (ℕ_discrete v u);
              behind = λ i j b o f t. behind i j b o f t (ℕ_discrete i (waiting - 1));
            }
          where
            kf : k < filled
            kf = omega (arith, s.least)

            mf : waiting - 1 < filled
            mf = omega (arith, s.least)

            -- rows at other places are other rows
            other : (i : ℕ) → i < filled → (i ≡ k → ⊥) → get_or queue i 0 ≡ u → ⊥
            other i b f z = f (s.once.apart i k b kf (z ∙ e))

            kept : (i : ℕ) → i < filled → (i ≡ k → ⊥) → state_of (set state u 2) (get_or queue i 0) ≡ state_of state (get_or queue i 0)
            kept i b f = get_or-set_other state u (get_or queue i 0) 2 0 (other i b f)

            waits : (i : ℕ) → i < waiting - 1 → state_of (set state u 2) (get_or new i 0) ≡ 1
            waits i b = let y = stood k (waiting - 1) place_last queue new q i in rw y.same (go y.how)
              where
                go : {p : ℕ} → Came k (waiting - 1) i p → state_of (set state u 2) (get_or queue p 0) ≡ 1
                go (came_before z) = kept i (omega (arith, s.least)) (λ w. omega arith) ∙ s.waits i (omega arith)
                go (came_up z f) = kept (suc i) (omega (arith, s.least)) (λ w. omega arith) ∙ s.waits (suc i) (omega arith)
                go (came_last z) = absurd (omega arith)
                go (came_behind z) = absurd (omega arith)

            gone : (i : ℕ) → waiting - 1 ≤ i → i < filled → Dec (i ≡ waiting - 1) → state_of (set state u 2) (get_or new i 0) ≡ 2
            gone i b o (yes z) = rw (z, second k (waiting - 1) place_last queue new q, sym e) (get_or-set_same state u 2 0 place_state)
            gone i b o (no z) =
                rw (far k (waiting - 1) place_last queue new q i (omega arith)) (kept i o (λ w. omega arith) ∙ s.gone i (omega arith) o)

            all : (v : ℕ) → v < stored → (state_of (set state u 2) v ≡ 0 → ⊥) → Dec (v ≡ u) → StandsIn new 0 filled v
            all v b f (yes z) =
                record { place = waiting - 1; low = omega arith; high = mf; is = second k (waiting - 1) place_last queue new q ∙ sym e ∙ sym z }
            all v b f (no z) =
                let a = s.all v b (λ o. f (get_or-set_other state u v 2 0 z ∙ o)) in
                rw a.is at (stands k (waiting - 1) place_last queue new q filled a.place mf a.high)

            -- a place behind those that waited has what it had
            later : (i v : ℕ) → waiting ≤ i → StandsIn queue i filled v → StandsIn new i filled v
            later i v b a =
                record {
                  place = a.place;
                  low = a.low;
                  high = a.high;
                  is = far k (waiting - 1) place_last queue new q a.place (omega (arith, a.low)) ∙ a.is;
                }

            -- an input that is gone stands behind those that wait
            input : (v : ℕ) → v < stored → state_of state v ≡ 2 → StandsIn queue waiting filled v
            input v b z = go (s.all v b (λ o. omega arith))
              where
                go : StandsIn queue 0 filled v → StandsIn queue waiting filled v
                go a = at (dec_lt a.place waiting)
                  where
                    at : Dec (a.place < waiting) → StandsIn queue waiting filled v
                    at (yes l) = let o : state_of state v ≡ 1 = rw a.is at (s.waits a.place l) in absurd (omega arith)
                    at (no l) = record { place = a.place; low = omega arith; high = a.high; is = a.is }

            peeled : (j : ℕ) → (Hold g u → ⊥) → j < g.count u → Peels g state u → StandsIn queue waiting filled (g.input u j)
            peeled j f t (peels_hold z) = absurd (f z)
            peeled j f t (peels_gone z) = input (g.input u j) (c.within u j place_low t) (z j t)

            behind : (i j : ℕ) → waiting - 1 ≤ i → i < filled → (Hold g (get_or new i 0) → ⊥) → j < g.count (get_or new i 0) → Dec (i ≡ waiting - 1)
                → StandsIn new (suc i) filled (g.input (get_or new i 0) j)
            behind i j b o f t (yes z) =
                let w : get_or new i 0 ≡ u = rw z (second k (waiting - 1) place_last queue new q ∙ sym e) in
                let y : suc i ≡ waiting = omega arith in
                rw (w, y) (later waiting (g.input u j) (omega arith) (peeled j (rw w at f) (rw w at t) (passed_yes p n)))
            behind i j b o f t (no z) =
                let w : get_or new i 0 ≡ get_or queue i 0 = far k (waiting - 1) place_last queue new q i (omega arith) in
                rw w (later (suc i) (g.input (get_or queue i 0) j) (omega arith) (s.behind i j (omega arith) o (rw w at f) (rw w at t)))

        taken : Moved (peeling g) state (set state u 2)
        unfolding peeling
        taken = moved_more moved_none place_state (rw e (s.waits k h)) (passed_yes p n)

        pub place_taken : PlaceSays g stored filled state queue waiting k (set state u 2) new (waiting - 1)
        place_taken = place_goes {left = waiting - 1} taken sifted (omega arith)

-- ---- a pass

module _ (g : Graph) (stored filled : ℕ) (old oldq : List ℕ) (waiting : ℕ) where
  pub pass_none : Sifting g stored old oldq filled waiting → PassSays g stored filled old oldq waiting waiting old oldq waiting
  pass_none s =
      record {
        moved = moved_none;
        same = refl;
        sifting = s;
        low = omega arith;
        high = omega arith;
        still = λ e i a b. absurd (omega arith);
      }

  module _ (k : ℕ) (state queue : List ℕ) (left : ℕ) (s : PassSays g stored filled old oldq waiting k state queue left) where
    pub pass_long : (n : ℕ) → n ≤ length old → n ≤ length state
    pass_long n h = omega (arith, s.same)

    pub pass_place : (c : ℕ) → c < k → k - 1 < left
    pass_place c h = omega (arith, s.low)

    pub pass_sifting : Sifting g stored state queue filled left
    pass_sifting = s.sifting

    pub pass_more : (c : ℕ) → c < k → (state' queue' : List ℕ) (left' : ℕ) → length state' ≡ length state
        → PlaceSays g stored filled state queue left (k - 1) state' queue' left' → PassSays g stored filled old oldq waiting (k - 1) state' queue' left'
    pass_more c h state' queue' left' same p = go same p
      where
        go : {state' queue' : List ℕ} {left' : ℕ} → length state' ≡ length state → PlaceSays g stored filled state queue left (k - 1) state' queue' left'
            → PassSays g stored filled old oldq waiting (k - 1) state' queue' left'
        go y (place_stays f) =
            record {
              moved = s.moved;
              same = s.same;
              sifting = s.sifting;
              low = omega (arith, s.low);
              high = s.high;
              still = λ e i a b. one e i a b (ℕ_discrete i (k - 1));
            }
          where
            one : left ≡ waiting → (i : ℕ) → k - 1 ≤ i → i < waiting → Dec (i ≡ k - 1) → Peels g state (get_or queue i 0) → ⊥
            one e i a b (yes z) = rw z f
            one e i a b (no z) = s.still e i (omega arith) b
        go y (place_goes m t e) =
            record {
              moved = moved_on s.moved m;
              same = y ∙ s.same;
              sifting = t;
              low = omega (arith, s.low);
              high = omega (arith, s.high);
              still = λ z i a b. absurd (omega (arith, s.high));
            }

    pub pass_done : k ≤ 0 → PassSays g stored filled old oldq waiting 0 state queue left
    pass_done h = let e : k ≡ 0 = omega arith in rw e at s

-- ---- pass after pass

-- the rows gone so far
pub record QueueTurning (g : Graph) (stored filled : ℕ) (old state queue : List ℕ) (waiting : ℕ) : Type 0 where
  pub moved : Moved (peeling g) old state
  pub same : length state ≡ length old
  pub sifting : Sifting g stored state queue filled waiting

module _ (g : Graph) (stored filled : ℕ) (old : List ℕ) where
  pub turns_none : (queue : List ℕ) → Queueing stored old queue filled → QueueTurning g stored filled old old queue filled
  turns_none queue q = record { moved = moved_none; same = refl; sifting = sift_begin g stored old queue filled q }

  module _ (state queue : List ℕ) (waiting : ℕ) (s : QueueTurning g stored filled old state queue waiting) where
    pub turns_long : (n : ℕ) → n ≤ length old → n ≤ length state
    turns_long n h = omega (arith, s.same)

    pub turns_sifting : Sifting g stored state queue filled waiting
    turns_sifting = s.sifting

    module _ (state' queue' : List ℕ) (left : ℕ) (p : PassSays g stored filled state queue waiting 0 state' queue' left) where
      pub turns_more : QueueTurning g stored filled old state' queue' left
      turns_more = record { moved = moved_on s.moved p.moved; same = p.same ∙ s.same; sifting = p.sifting }

      pub turns_less : (left ≡ waiting → ⊥) → left < waiting
      turns_less f = omega (arith, p.high)

      pub turns_done : left ≡ waiting → QueueSifted g stored filled old state' queue' left
      turns_done e =
          record {
            moved = moved_on s.moved p.moved;
            same = p.same ∙ s.same;
            sifting = p.sifting;
            still = λ i h. p.still e i (omega arith) (omega arith);
          }
