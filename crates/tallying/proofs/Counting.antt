-- One row more counted.
use Rattle.std.proofs.Common.{ℕ, zero, suc, ◌+◌, ◌*◌, ◌≤◌, ◌<◌, arith, add-one, ◌≡◌, refl, sym, ap, ◌∙◌, Bool, true, false, List, length, le-leb, eq-eqb, ne_eqb}
use borrow.Author.Tests.{lt-leb}
use Rattle.rules.specs.Pick.{pick}
use Rattle.rules.specs.Answers.{Says, says_yes, says_no}
use Rattle.rules.specs.Lists.{widest}
use Rattle.store.specs.Layout.{count_of, input_of, store_graph}
use Rattle.store.proofs.Room.{row_there}
use Rattle.wires.specs.Wires.{Wire}
use Rattle.mends.specs.Counts.{tally, total, wire_of, unused_set}
use Rattle.mends.specs.Entries.{entry_of}
use Rattle.mends.proofs.Left.{few_rows}
use Rattle.tallying.specs.Counted.{one_if, marked_at, wire_left, word_set, cleared_left, Summed, RowLooked, TallyAsks}

-- ---- a sum

pub record Summing (n : ℕ) (gives : ℕ → ℕ → Type 0) (sum u : ℕ) : Type 0 where
  pub some : u ≤ n
  pub low : sum ≤ widest * u
  pub is : (f : ℕ → ℕ) → ((v x : ℕ) → v < n → gives v x → x ≡ f v) → sum ≡ total f u

module _ (n : ℕ) (gives : ℕ → ℕ → Type 0) where
  pub summing_none : Summing n gives 0 0
  unfolding total
  summing_none = record { some = omega arith; low = omega arith; is = λ f g. refl }

  module _ (sum u : ℕ) (s : Summing n gives sum u) where
    pub summing_more : (x : ℕ) → u < n → x ≤ widest → gives u x → Summing n gives (sum + x) (u + 1)
    unfolding total
    summing_more x h l p =
        record {
          some = omega arith;
          low = omega (arith, s.low);
          is = λ f g. rw (add-one u) (ap (λ y. y + x) (s.is f g) ∙ ap (λ y. total f u + y) (g u x h p));
        }

pub tally_total : (t : ℕ → Bool) (n : ℕ) → tally t n ≡ total (λ u. one_if (t u)) n
unfolding tally total
tally_total t zero = refl
tally_total t (suc n) = ap (λ x. x + one_if (t n)) (tally_total t n)

pub summed_tally : (t : ℕ → Bool) (n : ℕ) (gives : ℕ → ℕ → Type 0) (r : ℕ) → Summed n gives r → ((u x : ℕ) → u < n → gives u x → x ≡ one_if (t u)) → r ≡ tally t n
summed_tally t n gives r s g = s.is (λ u. one_if (t u)) g ∙ sym (tally_total t n)

pub tally_most : (t : ℕ → Bool) (n : ℕ) → tally t n ≤ n
unfolding tally
tally_most t zero = omega arith
tally_most t (suc n) = go (t n) (tally_most t n)
  where
    go : (x : Bool) → tally t n ≤ n → tally t n + pick x 1 0 ≤ suc n
    go true l = omega arith
    go false l = omega arith

-- ---- one row

module _ (list : List ℕ) (u x : ℕ) (e : x ≡ entry_of list u) where
  marked_yes : x ≡ 4294967295 → marked_at list u ≡ true
  unfolding marked_at
  marked_yes q = eq-eqb (entry_of list u) 4294967295 (sym e ∙ q)

  marked_no : (x ≡ 4294967295 → ⊥) → marked_at list u ≡ false
  unfolding marked_at
  marked_no f = ne_eqb (entry_of list u) 4294967295 (λ q. f (e ∙ q))

  pub one_yes : x ≡ 4294967295 → 1 ≡ one_if (marked_at list u)
  one_yes q = rw (marked_yes q) refl

  pub one_no : (x ≡ 4294967295 → ⊥) → 0 ≡ one_if (marked_at list u)
  one_no f = rw (marked_no f) refl

  module _ (most : ℕ) (w : List ℕ) where
    pub wire_gone : x ≡ 4294967295 → 0 ≡ one_if (wire_left most w list u)
    unfolding wire_left
    wire_gone q = rw (marked_yes q) refl

    pub words_gone : x ≡ 4294967295 → 0 ≡ cleared_left most w list u
    unfolding cleared_left
    words_gone q = rw (marked_yes q) refl

    module _ (f : x ≡ 4294967295 → ⊥) where
      pub wire_yes : (r : Bool) → Says (Wire (store_graph most w) u) r → r ≡ true → 1 ≡ one_if (wire_left most w list u)
      unfolding wire_left store_graph
      wire_yes r s q = rw (marked_no f) (go (rw q at s))
        where
          go : Says (Wire (store_graph most w) u) true → 1 ≡ one_if (wire_of most w u)
          go (says_yes y) = rw y.is refl

      pub wire_no : (r : Bool) → Says (Wire (store_graph most w) u) r → r ≡ false → 0 ≡ one_if (wire_left most w list u)
      unfolding wire_left store_graph
      wire_no r s q = rw (marked_no f) (go (rw q at s))
        where
          at : (t : Bool) → wire_of most w u ≡ t → (Wire (store_graph most w) u → ⊥) → 0 ≡ one_if t
          at true z g = absurd (g (record { is = z }))
          at false z g = refl

          go : Says (Wire (store_graph most w) u) false → 0 ≡ one_if (wire_of most w u)
          go (says_no g) = at (wire_of most w u) refl g

      pub words_of : (r : ℕ) → r ≡ tally (word_set most w u) most → r ≡ cleared_left most w list u
      unfolding cleared_left word_set
      words_of r q = rw (marked_no f) q

-- ---- one word

module _ (most : ℕ) (w : List ℕ) (u j count : ℕ) (c : count ≡ count_of most w u) where
  pub word_used : j < count → 0 ≡ one_if (word_set most w u j)
  unfolding word_set
  word_used h = rw (lt-leb (count_of most w u) j (omega arith)) refl

  module _ (h : count ≤ j) (x : ℕ) (e : x ≡ input_of most w u j) where
    pub word_zero : x ≡ 0 → 0 ≡ one_if (word_set most w u j)
    unfolding word_set
    word_zero q = rw (le-leb (count_of most w u) j (omega arith), eq-eqb (input_of most w u j) 0 (sym e ∙ q)) refl

    pub word_set_lem : (x ≡ 0 → ⊥) → 1 ≡ one_if (word_set most w u j)
    unfolding word_set
    word_set_lem f = rw (le-leb (count_of most w u) j (omega arith), ne_eqb (input_of most w u j) 0 (λ q. f (e ∙ q))) refl

-- ---- all rows

module _ (most n : ℕ) (w list : List ℕ) (a : TallyAsks most n w list) where
  pub rows_few : n ≤ 1024
  rows_few = few_rows most n (length w) a.room

  pub rows_looked : (u : ℕ) → u < n → RowLooked most w list u
  rows_looked u h = record { there = row_there most w n u a.limit h a.room; entry = omega (arith, a.entries) }

  pub words_most : (u x : ℕ) → x ≡ cleared_left most w list u → x ≤ widest
  unfolding cleared_left
  words_most u x e = rw e (go (marked_at list u))
    where
      go : (t : Bool) → pick t 0 (tally (unused_set most w u) most) ≤ widest
      go true = omega arith
      go false = omega (arith, a.limit, tally_most (unused_set most w u) most)
