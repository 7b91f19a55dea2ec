-- Starts marked: a marked row is one of them, and each of them is marked.
use Prim.Native.Nat.{ℕ, ◌+◌, ◌≤◌, ◌<◌}
use native.Mathlib.Omega.{arith}
use native.Mathlib.Decide.{dec_lt}
use mathlib.Core.Path.{◌≡◌, refl, sym, ◌∙◌}
use mathlib.Core.List.{List}
use mathlib.Core.Logic.{◌↔◌}
use lib.ListN.{length, get_or, set, length-set}
use lib.Seq.{get_or-set_same, get_or-set_other}
use borrow.Author.Count.{below_more}
use borrow.Author.Tests.{lt-ltb, le-ltb}
use Rattle.loops.specs.Orders.{StandsIn}
use Rattle.rows.specs.Joined.{Source}
use Rattle.rows.specs.View.{Drawn, view_rows}
use Rattle.rows.proofs.View.{laid_stored}
use Rattle.judging.specs.Verdicts.{state_of, SomeMarked, Begun, start_state, Starts, SomeBetween}
use Rattle.judging.specs.Queues.{Starting}

-- ---- the state that a row begins with

module _ (from to u : ℕ) where
  pub state_before : u < from → 0 ≡ start_state from to u
  unfolding start_state
  state_before h = simp (lt-ltb u from h)

  pub state_start : from ≤ u → u < to → 1 ≡ start_state from to u
  unfolding start_state
  state_start h l = simp (le-ltb u from h, lt-ltb u to l)

  pub state_after : from ≤ u → to ≤ u → 0 ≡ start_state from to u
  unfolding start_state
  state_after h l = simp (le-ltb u from h, le-ltb u to l)

  -- only a start has state 1
  data Begins : ℕ → Type 0 where
    begins_start : from ≤ u → u < to → Begins 1
    begins_other : Begins 0

  begins : Begins (start_state from to u)
  begins = go (dec_lt u from) (dec_lt u to)
    where
      go : Dec (u < from) → Dec (u < to) → Begins (start_state from to u)
      go (yes h) l = rw (sym (state_before h)) begins_other
      go (no h) (yes l) = rw (sym (state_start (omega arith) l)) (begins_start (omega arith) l)
      go (no h) (no l) = rw (sym (state_after (omega arith) (omega arith))) begins_other

-- ---- marked one after another

pub record Marking (from to : ℕ) (old : List ℕ) (u : ℕ) (state : List ℕ) : Type 0 where
  pub same : length state ≡ length old
  pub each : (k : ℕ) → k < u → state_of state k ≡ start_state from to k

module _ (n from to : ℕ) (old : List ℕ) where
  pub marking_none : Marking from to old 0 old
  marking_none = record { same = refl; each = λ k h. absurd (omega arith) }

  module _ (u : ℕ) (state : List ℕ) (s : Marking from to old u state) (long : n ≤ length old) where
    pub marking_there : u < n → u < length state
    marking_there h = omega (arith, s.same)

    pub marking_more : u < n → (x : ℕ) → x ≡ start_state from to u → Marking from to old (u + 1) (set state u x)
    marking_more h x e =
        record {
          same = length-set state u x ∙ s.same;
          each = below_more _ _ (λ k l. get_or-set_other state u k x 0 (λ q. omega arith) ∙ s.each k l) (get_or-set_same state u x 0 (marking_there h) ∙ e);
        }

    pub marking_all : n ≤ u → Starts n from to state
    marking_all h = record { long = omega (arith, s.same); each = λ k l. s.each k (omega arith) }

-- ---- what the starts are

module _ {n from to : ℕ} {state : List ℕ} (s : Starts n from to state) where
  pub starts_begun : Begun n state
  starts_begun = record { long = s.long; each = λ u h. rw (s.each u h) (go (begins from to u)) }
    where
      go : {u x : ℕ} → Begins from to u x → x ≤ 1
      go (begins_start h l) = omega arith
      go begins_other = omega arith

  pub starts_some : to ≤ n → {P : ℕ → Type 0} → SomeMarked n state P ↔ SomeBetween from to P
  starts_some h {P} = (there, back)
    where
      there : SomeMarked n state P → SomeBetween from to P
      there m = go (begins from to m.row) (sym (s.each m.row m.within) ∙ m.is.marked)
        where
          go : {x : ℕ} → Begins from to m.row x → x ≡ 1 → SomeBetween from to P
          go (begins_start a b) e = record { row = m.row; low = a; high = b; holds = m.is.holds }
          go begins_other e = absurd (omega arith)

      back : SomeBetween from to P → SomeMarked n state P
      back a =
          let l : a.row < n = omega (arith, a.high) in
          record {
            row = a.row;
            within = l;
            is = record { marked = s.each a.row l ∙ sym (state_start from to a.row a.low a.high); holds = a.holds };
          }

-- ---- what the queue is then

-- the sheet's rows are the starts, and no row of the store is
pub starts_sheet : (s : Source) (table state queue : List ℕ) → Drawn s table → Starts (view_rows s table) s.stored (view_rows s table) state → s.stored ≤ length queue
    → Starting s table state queue 0
starts_sheet s table state queue v t l =
    record {
      view = v;
      long = t.long;
      sheet = λ u h k. t.each u k ∙ sym (state_start s.stored (view_rows s table) u h k);
      queued = record {
        once = record {
          space = l;
          few = laid_stored v.laid;
          least = omega arith;
          within = λ i h. absurd (omega arith);
          apart = λ i k h. absurd (omega arith);
        };
        long = omega (arith, t.long);
        met = λ i h. absurd (omega arith);
        all = λ u h f. absurd (f (t.each u (omega arith) ∙ sym (state_before s.stored (view_rows s table) u h)));
      };
    }

-- a row of a store alone is the only start
pub starts_one : (s : Source) (table state queue : List ℕ) (x : ℕ) → Drawn s table → Starts (view_rows s table) x (x + 1) state → length table ≡ 0 → x < s.stored
    → s.stored ≤ length queue → Starting s table state (set queue 0 x) 1
starts_one s table state queue x v t z h l =
    record {
      view = v;
      long = t.long;
      sheet = λ u a b. absurd (omega arith);
      queued = record {
        once = record {
          space = simp length-set l;
          few = laid_stored v.laid;
          least = omega arith;
          within = λ i a. let e : i ≡ 0 = omega arith in rw (e, first) h;
          apart = λ i k a b e. omega arith;
        };
        long = omega (arith, t.long);
        met = λ i a. let e : i ≡ 0 = omega arith in rw (e, first) (t.each x (omega arith) ∙ sym (state_start x (x + 1) x (omega arith) (omega arith)));
        all = λ u a f. go u a f (begins x (x + 1) u) (t.each u (omega arith));
      };
    }
  where
    first : get_or (set queue 0 x) 0 0 ≡ x
    first = get_or-set_same queue 0 x 0 (omega arith)

    go : (u : ℕ) → u < s.stored → (state_of state u ≡ 0 → ⊥) → {y : ℕ} → Begins x (x + 1) u y → state_of state u ≡ y → StandsIn (set queue 0 x) 0 1 u
    go u a f (begins_start p q) e =
        let w : u ≡ x = omega arith in
        record { place = 0; low = omega arith; high = omega arith; is = first ∙ sym w }
    go u a f begins_other e = absurd (f e)
