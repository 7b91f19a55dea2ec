-- A pass over the jumps, row after row, in place; and passes.
use Rattle.std.proofs.Common.{ℕ, ◌+◌, ◌≤◌, ◌<◌, arith, add-one, ◌≡◌, refl, sym, ap, ◌∙◌, Bool, true, false, List, length, set, length-set, get_or-set_same, get_or-set_other}
use native.Mathlib.Decide.{dec_lt, ℕ_discrete}
use Rattle.rules.specs.Answers.{Says}
use Rattle.rules.proofs.Answers.{said_yes, said_no}
use Rattle.trees.specs.Graph.{Graph}
use Rattle.store.specs.Layout.{store_graph}
use Rattle.store.specs.Rows.{RowThere}
use Rattle.wires.specs.Wires.{Wire}
use Rattle.wires.proofs.Doubling.{jump_twice, jump_half}
use Rattle.wires.specs.Jumps.{Jump}
use Rattle.mends.specs.Entries.{entry_of, Marked}
use Rattle.jumping.specs.Jumps.{Jumps, Named, SameMarks, doubled, Doubled, OnAsks, JumpedOn, on_stays, on_goes, EndAsks, EndRow, end_marked, end_box, end_wire}

-- ---- one row

module _ (old : List ℕ) (u x : ℕ) (a : OnAsks old u) (e : x ≡ entry_of old u) where
  pub on_next : (x ≡ 4294967295 → ⊥) → x < length old
  on_next f = omega (arith, a.next (λ m. f (e ∙ m)))

  pub told_stays : x ≡ 4294967295 → JumpedOn old u old
  told_stays q = on_stays (sym e ∙ q) refl

  pub told_goes : (y : ℕ) → (x ≡ 4294967295 → ⊥) → y ≡ entry_of old x → JumpedOn old u (set old u y)
  told_goes y f q = on_goes (λ m. f (e ∙ m)) (ap (set old u) (q ∙ ap (entry_of old) e))

-- ---- the pass

pub record Passed (g : Graph) (n least passed : ℕ) (list : List ℕ) : Type 0 where
  pub twice : (u : ℕ) → u < passed → (Marked list u → ⊥) → Jump g (least + least) u (entry_of list u)
  pub once : (u : ℕ) → passed ≤ u → u < n → (Marked list u → ⊥) → Jump g least u (entry_of list u)

pub record Passing (n : ℕ) (old list : List ℕ) (i : ℕ) : Type 0 where
  pub some : i ≤ n
  pub same : length list ≡ length old
  pub named : Named n list
  pub marks : SameMarks n old list
  pub passed : (g : Graph) (least : ℕ) → Jumps g n least old → Passed g n least i list

pub passing_none : (n : ℕ) (old : List ℕ) → Named n old → Passing n old old 0
passing_none n old a =
    record {
      some = omega arith;
      same = refl;
      named = a;
      marks = record { long = refl; past = λ u h. refl; to = λ u m. m; from = λ u m. m };
      passed = λ g least j. record { twice = λ u h. absurd (omega arith); once = λ u h l f. j.each u l f };
    }

module _ (n : ℕ) (old list : List ℕ) (i : ℕ) (s : Passing n old list i) (l : i < n) where
  pub passing_asks : OnAsks list i
  passing_asks = record { entry = omega (arith, s.named.long); next = λ f. omega (arith, s.named.row i l f, s.named.long) }

  -- a row that is marked
  pub passing_stays : Marked list i → Passing n old list (i + 1)
  passing_stays m =
      record {
        some = omega arith;
        same = s.same;
        named = s.named;
        marks = s.marks;
        passed = λ g least j. record { twice = λ u h f. go g least j u h f (dec_lt u i); once = λ u h k f. (s.passed g least j).once u (omega arith) k f };
      }
    where
      go : (g : Graph) (least : ℕ) → Jumps g n least old → (u : ℕ) → u < i + 1 → (Marked list u → ⊥) → Dec (u < i) → Jump g (least + least) u (entry_of list u)
      go g least j u h f (yes q) = (s.passed g least j).twice u q f
      go g least j u h f (no q) = let z : u ≡ i = omega arith in absurd (f (rw z m))

  -- a row that is not
  module _ (f : Marked list i → ⊥) where
    abbrev x : ℕ
    x = entry_of list i

    abbrev y : ℕ
    y = entry_of list (entry_of list i)

    abbrev new : List ℕ
    new = set list i (entry_of list (entry_of list i))

    low : x < n
    low = s.named.row i l f

    left : Marked list x → ⊥
    left = s.named.left i l f

    here : entry_of new i ≡ y
    here = get_or-set_same list i y 0 (omega (arith, s.named.long))

    other : (k : ℕ) → (k ≡ i → ⊥) → entry_of new k ≡ entry_of list k
    other k d = get_or-set_other list i k y 0 d

    to : (k : ℕ) → Marked list k → Marked new k
    to k m = go (ℕ_discrete k i)
      where
        go : Dec (k ≡ i) → Marked new k
        go (yes z) = absurd (f (rw z at m))
        go (no z) = other k z ∙ m

    from : (k : ℕ) → Marked new k → Marked list k
    from k m = go (ℕ_discrete k i)
      where
        go : Dec (k ≡ i) → Marked list k
        go (yes z) = absurd (left (sym here ∙ (rw z at m)))
        go (no z) = sym (other k z) ∙ m

    names : (k : ℕ) → k < n → (Marked new k → ⊥) → (entry_of new k < n) × (Marked new (entry_of new k) → ⊥)
    names k h d = go (ℕ_discrete k i)
      where
        go : Dec (k ≡ i) → (entry_of new k < n) × (Marked new (entry_of new k) → ⊥)
        go (yes z) = rw (z, here) (s.named.row x low left, (λ m. s.named.left x low left (from y m)))
        go (no z) = rw (other k z) (s.named.row k h (λ m. d (to k m)), (λ m. s.named.left k h (λ r. d (to k r)) (from (entry_of list k) m)))

    module _ (g : Graph) (least : ℕ) (t : Passed g n least i list) where
      any : (k : ℕ) → k < n → (Marked list k → ⊥) → Jump g least k (entry_of list k)
      any k h d = go (dec_lt k i)
        where
          go : Dec (k < i) → Jump g least k (entry_of list k)
          go (yes q) = jump_half g (t.twice k q d)
          go (no q) = t.once k (omega arith) h d

      more : Passed g n least (i + 1) new
      more = record { twice = λ k h d. go k h d (dec_lt k i); once = λ k h r d. let z : k ≡ i → ⊥ = λ q. omega arith in rw (other k z) (t.once k (omega arith) r (λ m. d (to k m))) }
        where
          go : (k : ℕ) → k < i + 1 → (Marked new k → ⊥) → Dec (k < i) → Jump g (least + least) k (entry_of new k)
          go k h d (yes q) = let z : k ≡ i → ⊥ = λ r. omega arith in rw (other k z) (t.twice k q (λ m. d (to k m)))
          go k h d (no q) = let z : k ≡ i = omega arith in rw (z, here) (jump_twice g (any i l f) (any x low left))

    goes : Passing n old new (i + 1)
    goes =
        record {
          some = omega arith;
          same = length-set list i y ∙ s.same;
          named = record { long = omega (arith, length-set list i y, s.named.long); row = λ k h d. (names k h d).0; left = λ k h d. (names k h d).1 };
          marks = record { long = length-set list i y ∙ s.same; past = λ k h. other k (λ z. omega arith) ∙ s.marks.past k h; to = λ k m. to k (s.marks.to k m); from = λ k m. s.marks.from k (from k m) };
          passed = λ g least j. more g least (s.passed g least j);
        }

  pub passing_more : (new : List ℕ) → JumpedOn list i new → Passing n old new (i + 1)
  passing_more new (on_stays m z) = rw z (passing_stays m)
  passing_more new (on_goes f z) = rw z (goes f)

module _ (n : ℕ) (old list : List ℕ) (i : ℕ) (s : Passing n old list i) where
  pub passing_named : Named n list
  passing_named = s.named

  pub passing_marks : SameMarks n old list
  passing_marks = s.marks

  pub passing_all : n ≤ i → Doubled n old list 1
  unfolding doubled
  passing_all h = record { of = λ g least j. record { each = λ u l f. (s.passed g least j).twice u (omega arith) f } }

-- ---- passes

pub record Turning (n : ℕ) (old list : List ℕ) (k : ℕ) : Type 0 where
  pub some : k ≤ 11
  pub same : length list ≡ length old
  pub named : Named n list
  pub marks : SameMarks n old list
  pub doubles : Doubled n old list k

pub turning_none : (n : ℕ) (old : List ℕ) → Named n old → Turning n old old 0
unfolding doubled
turning_none n old a =
    record {
      some = omega arith;
      same = refl;
      named = a;
      marks = record { long = refl; past = λ u h. refl; to = λ u m. m; from = λ u m. m };
      doubles = record { of = λ g least j. j };
    }

module _ (n : ℕ) (old list : List ℕ) (k : ℕ) (s : Turning n old list k) where
  pub turning_named : Named n list
  turning_named = s.named

  pub turning_more : (new : List ℕ) → k < 11 → Named n new → SameMarks n list new → Doubled n list new 1 → Turning n old new (k + 1)
  unfolding doubled
  turning_more new h a m d =
      record {
        some = omega arith;
        same = m.long ∙ s.same;
        named = a;
        marks = record { long = m.long ∙ s.same; past = λ u h. m.past u h ∙ s.marks.past u h; to = λ u x. m.to u (s.marks.to u x); from = λ u x. s.marks.from u (m.from u x) };
        doubles = record { of = λ g least j. rw (add-one k) (d.of g (doubled k least) (s.doubles.of g least j)) };
      }

  pub turning_marks : SameMarks n old list
  turning_marks = s.marks

  pub turning_all : 11 ≤ k → Doubled n old list 11
  turning_all h = let e : k ≡ 11 = omega (arith, s.some) in rw e at s.doubles

-- eleven of them, of one wire first: 2,048 wires
pub eleven : doubled 11 1 ≡ 2048
unfolding doubled
eleven = refl

-- ---- endless wires

module _ (most : ℕ) (w old : List ℕ) (u x : ℕ) (a : EndAsks most w old u) (e : x ≡ entry_of old u) where
  pub end_told : x ≡ 4294967295 → EndRow most w old u old
  end_told q = end_marked (sym e ∙ q) refl

  module _ (f : x ≡ 4294967295 → ⊥) where
    pub end_there : RowThere most w x
    end_there = rw e (a.there (λ m. f (e ∙ m)))

    module _ (r : Bool) (s : Says (Wire (store_graph most w) x) r) where
      pub end_is : r ≡ true → EndRow most w old u (set old u 4294967295)
      end_is q = end_wire (λ m. f (e ∙ m)) (rw e at (said_yes (rw q at s))) refl

      pub end_not : r ≡ false → EndRow most w old u old
      end_not q = end_box (λ m. f (e ∙ m)) (λ z. said_no (rw q at s) (rw e z)) refl
