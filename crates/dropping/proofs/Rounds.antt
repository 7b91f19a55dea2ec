-- A round over all rows, and rounds until none marks a row.
use Rattle.std.proofs.Common.{ℕ, zero, suc, ◌+◌, ◌≤◌, ◌<◌, arith, ◌≡◌, refl, sym, ap₂, ◌∙◌, Bool, true, false, ◌||◌, List, length, set, length-set, get_or-set_same, get_or-set_other, eqb, eq-eqb, ne_eqb}
use native.Mathlib.Decide.{dec_lt, ℕ_discrete}
use Rattle.rules.specs.Pick.{pick}
use Rattle.trees.proofs.Paths.{leads_self, leads_input, leads_trans}
use Rattle.store.specs.Layout.{input_of, store_graph}
use Rattle.store.proofs.Room.{row_there}
use Rattle.mends.specs.Entries.{entry_of, Marked}
use Rattle.dropping.specs.Dropping.{HasMarked, RowAsks, RowDrops, row_drops, row_stays, DropAsks, ToMarked, Spread, unmarked, RoundSays, round_still, round_moved, Settled}

-- ---- the rows not marked

unmarked_other : (n u : ℕ) (list : List ℕ) → n ≤ u → unmarked n (set list u 4294967295) ≡ unmarked n list
unfolding unmarked
unmarked_other zero u list h = refl
unmarked_other (suc n) u list h =
    ap₂ (λ x y. x + pick (eqb y 4294967295) 0 1) (unmarked_other n u list (omega arith)) (get_or-set_other list u n 4294967295 0 (λ q. omega arith))

unmarked_falls : (n u : ℕ) (list : List ℕ) → u < n → u < length list → (Marked list u → ⊥) → unmarked n (set list u 4294967295) < unmarked n list
unfolding unmarked
unmarked_falls zero u list h l f = absurd (omega arith)
unmarked_falls (suc n) u list h l f = go (dec_lt u n) (λ q. unmarked_falls n u list q l f)
  where
    go : Dec (u < n) → (u < n → unmarked n (set list u 4294967295) < unmarked n list) → unmarked n (set list u 4294967295) + pick (eqb (entry_of (set list u 4294967295) n) 4294967295) 0 1 < unmarked n list + pick (eqb (entry_of list n) 4294967295) 0 1
    go (yes q) ih = let i = ih q in rw (get_or-set_other list u n 4294967295 0 (λ z. omega arith)) (omega arith)
    go (no q) ih =
        let z : n ≡ u = omega arith in
        let i = unmarked_other n u list (omega arith) in
        let o : ◌≡◌ {A = ℕ} (pick (eqb (entry_of (set list u 4294967295) n) 4294967295) 0 1) 0 = rw z (simp (eq-eqb _ _ (get_or-set_same list u 4294967295 0 l))) in
        let p : ◌≡◌ {A = ℕ} (pick (eqb (entry_of list n) 4294967295) 0 1) 1 = rw z (simp (ne_eqb _ _ f)) in
        omega arith

-- ---- marks that spread

module _ {most n : ℕ} {w : List ℕ} where
  pub spread_none : (list : List ℕ) → Spread most n w list list
  spread_none list =
      record {
        long = refl;
        stands = λ u f. refl;
        past = λ u h. refl;
        marks = λ u m. m;
        leads = λ u h m. record { row = u; within = h; marked = m; leads = leads_self (store_graph most w) u };
      }

  pub spread_on : {a b c : List ℕ} → Spread most n w a b → Spread most n w b c → Spread most n w a c
  spread_on {a} {b} {c} s t =
      record {
        long = t.long ∙ s.long;
        stands = λ u f. t.stands u f ∙ s.stands u (λ m. f (t.marks u m));
        past = λ u h. t.past u h ∙ s.past u h;
        marks = λ u m. t.marks u (s.marks u m);
        leads = λ u h m. on u (t.leads u h m);
      }
    where
      on : (u : ℕ) → ToMarked most n w b u → ToMarked most n w a u
      on u x =
          let y = s.leads x.row x.within x.marked in
          record { row = y.row; within = y.within; marked = y.marked; leads = leads_trans x.leads y.leads }

  -- one row more
  pub spread_row : (list : List ℕ) (u : ℕ) → u < n → u < length list → (m : HasMarked most w list u) → input_of most w u m.place < n → Spread most n w list (set list u 4294967295)
  unfolding store_graph
  spread_row list u h l m i =
      record {
        long = length-set list u 4294967295;
        stands = λ x f. keep x f (ℕ_discrete x u);
        past = λ x q. get_or-set_other list u x 4294967295 0 (λ z. omega arith);
        marks = λ x q. more x q (ℕ_discrete x u);
        leads = λ x q r. way x q r (ℕ_discrete x u);
      }
    where
      here : Marked (set list u 4294967295) u
      here = get_or-set_same list u 4294967295 0 l

      other : (x : ℕ) → (x ≡ u → ⊥) → entry_of (set list u 4294967295) x ≡ entry_of list x
      other x f = get_or-set_other list u x 4294967295 0 f

      keep : (x : ℕ) → (Marked (set list u 4294967295) x → ⊥) → Dec (x ≡ u) → entry_of (set list u 4294967295) x ≡ entry_of list x
      keep x f (yes z) = absurd (f (rw z here))
      keep x f (no z) = other x z

      more : (x : ℕ) → Marked list x → Dec (x ≡ u) → Marked (set list u 4294967295) x
      more x q (yes z) = rw z here
      more x q (no z) = other x z ∙ q

      way : (x : ℕ) → x < n → Marked (set list u 4294967295) x → Dec (x ≡ u) → ToMarked most n w list x
      way x q r (yes z) = rw z (record { row = input_of most w u m.place; within = i; marked = m.marked; leads = leads_input (store_graph most w) u m.place m.used })
      way x q r (no z) = record { row = x; within = q; marked = sym (other x z) ∙ r; leads = leads_self (store_graph most w) x }

  -- what was asked of the rows still holds
  pub spread_asks : (old new : List ℕ) → DropAsks most n w old → Spread most n w old new → DropAsks most n w new
  spread_asks old new a s =
      record {
        limit = a.limit;
        room = a.room;
        entries = omega (arith, a.entries, s.long);
        few = λ u h f. a.few u h (λ m. f (s.marks u m));
        inputs = λ u h f. a.inputs u h (λ m. f (s.marks u m));
      }

-- ---- a round

pub data Looked (most n : ℕ) (w old : List ℕ) (u : ℕ) : (list : List ℕ) → Bool → Type 0 where
  looked_still : {list : List ℕ} → list ≡ old → ((x : ℕ) → x < u → (Marked old x → ⊥) → HasMarked most w old x → ⊥) → Looked most n w old u list false
  looked_moved : {list : List ℕ} → Spread most n w old list → unmarked n list < unmarked n old → Looked most n w old u list true

pub record Looking (most n : ℕ) (w old : List ℕ) (u : ℕ) (list : List ℕ) (moved : Bool) : Type 0 where
  pub some : u ≤ n
  pub same : length list ≡ length old
  pub asks : DropAsks most n w list
  pub looked : Looked most n w old u list moved

module _ (most n : ℕ) (w old : List ℕ) (a : DropAsks most n w old) where
  pub looking_none : Looking most n w old 0 old false
  looking_none = record { some = omega arith; same = refl; asks = a; looked = looked_still refl (λ x h. absurd (omega arith)) }

  module _ (u : ℕ) (list : List ℕ) (moved : Bool) (s : Looking most n w old u list moved) (h : u < n) where
    pub looking_asks : RowAsks most w list u
    looking_asks =
        record {
          entry = omega (arith, s.asks.entries);
          seen = λ f.
              record {
                there = row_there most w n u a.limit h a.room;
                few = s.asks.few u h f;
                inputs = λ j q. omega (arith, s.asks.inputs u h f j q, s.asks.entries);
              };
        }

    module _ (new : List ℕ) (r : Bool) (q : RowDrops most w list u new r) where
      spreads : RowDrops most w list u new true → Spread most n w list new
      spreads (row_drops f m z) = rw z (spread_row list u h (omega (arith, s.asks.entries)) m (s.asks.inputs u h f m.place m.used))

      falls : RowDrops most w list u new true → unmarked n new < unmarked n list
      falls (row_drops f m z) = rw z (unmarked_falls n u list h (omega (arith, s.asks.entries)) f)

      looking_moved : r ≡ true → Looking most n w old (u + 1) new true
      looking_moved e =
          let d : RowDrops most w list u new true = rw e at q in
          record {
            some = omega arith;
            same = (spreads d).long ∙ s.same;
            asks = spread_asks list new s.asks (spreads d);
            looked = go (spreads d) (falls d) s.looked;
          }
        where
          go : {m : Bool} → Spread most n w list new → unmarked n new < unmarked n list → Looked most n w old u list m → Looked most n w old (u + 1) new true
          go t l (looked_still z f) = looked_moved (rw z at t) (rw z at l)
          go t l (looked_moved y k) = looked_moved (spread_on y t) (omega arith)

      looking_kept : r ≡ false → Looking most n w old (u + 1) new moved
      looking_kept e = stay (rw e at q)
        where
          go : {m : Bool} → ((Marked list u → ⊥) → HasMarked most w list u → ⊥) → Looked most n w old u list m → Looked most n w old (u + 1) list m
          go f (looked_still z g) = looked_still z (λ x l. last x l (dec_lt x u))
            where
              last : (x : ℕ) → x < u + 1 → Dec (x < u) → (Marked old x → ⊥) → HasMarked most w old x → ⊥
              last x l (yes d) = g x d
              last x l (no d) = let y : x ≡ u = omega arith in rw (y, ← z) f
          go f (looked_moved y k) = looked_moved y k

          stay : RowDrops most w list u new false → Looking most n w old (u + 1) new moved
          stay (row_stays f z) = rw z (record { some = omega arith; same = s.same; asks = s.asks; looked = go f s.looked })

      pub looking_more : Looking most n w old (u + 1) new (moved || r)
      looking_more = go moved r refl refl
        where
          go : (m t : Bool) → moved ≡ m → r ≡ t → Looking most n w old (u + 1) new (m || t)
          go true true z e = looking_moved e
          go false true z e = looking_moved e
          go true false z e = rw z at (looking_kept e)
          go false false z e = rw z at (looking_kept e)

  pub looking_all : (u : ℕ) (list : List ℕ) (moved : Bool) → Looking most n w old u list moved → n ≤ u → RoundSays most n w old list moved
  looking_all u list moved s h = go s.looked
    where
      go : {m : Bool} → Looked most n w old u list m → RoundSays most n w old list m
      go (looked_still z f) = round_still (record { each = λ x l. f x (omega arith) }) z
      go (looked_moved t l) = round_moved t l

-- ---- rounds

pub record Turning (most n : ℕ) (w old list : List ℕ) : Type 0 where
  pub same : length list ≡ length old
  pub asks : DropAsks most n w list
  pub spread : Spread most n w old list

module _ (most n : ℕ) (w old : List ℕ) where
  pub turning_none : DropAsks most n w old → Turning most n w old old
  turning_none a = record { same = refl; asks = a; spread = spread_none old }

  module _ (list : List ℕ) (s : Turning most n w old list) where
    module _ (new : List ℕ) (r : Bool) (q : RoundSays most n w list new r) where
      pub turning_more : r ≡ true → Turning most n w old new
      turning_more e = go (rw e at q)
        where
          go : RoundSays most n w list new true → Turning most n w old new
          go (round_moved t l) = record { same = t.long ∙ s.same; asks = spread_asks list new s.asks t; spread = spread_on s.spread t }

      pub turning_done : r ≡ false → Settled most n w old new
      turning_done e = go (rw e at q)
        where
          go : RoundSays most n w list new false → Settled most n w old new
          go (round_still k z) = rw z (record { spread = s.spread; still = k })
