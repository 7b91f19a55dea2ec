-- Classes and numbers of rows: how they are counted, and how they are read.
use Prim.Native.Nat.{ℕ, ◌+◌, ◌≤◌, ◌<◌}
use native.Mathlib.Omega.{arith}
use mathlib.Core.Path.{◌≡◌, sym, ◌∙◌}
use mathlib.Core.List.{List}
use lib.ListN.{length, get_or, set}
use Rattle.rules.specs.Lists.{firsts}
use Rattle.rules.specs.Writes.{over_front}
use Rattle.rules.proofs.Lists.{firsts_length, firsts_at, Filled, filled_none, filled_more, filled_all}
use Rattle.rules.proofs.Writes.{over_length, over_front_lem}
use Rattle.trees.specs.Graph.{Graph}
use Rattle.trees.specs.Sorting.{Sorted}
use Rattle.rows.proofs.View.{viewed_few}
use Rattle.rounds.specs.Classes.{class_of}
use Rattle.numbering.specs.Numbers.{trees_below, row_number}
use Rattle.numbering.proofs.Counting.{below_none, below_first, below_known, below_most}
use Rattle.numbering.proofs.Quotient.{class_low}
use Rattle.writing.specs.After.{answer_of}
use Rattle.writing.specs.Asked.{NumberThere, Counted, ToWrite}

-- ---- one row more is counted

module _ (cls : List ℕ) (u count x : ℕ) (e : count ≡ trees_below (class_of cls) u) (p : x ≡ class_of cls u) where
  pub count_first : x ≡ u → count + 1 ≡ trees_below (class_of cls) (u + 1)
  count_first q = omega (arith, below_first (class_of cls) u (sym p ∙ q))

  pub count_known : (x ≡ u → ⊥) → count ≡ trees_below (class_of cls) (u + 1)
  count_known f = omega (arith, below_known (class_of cls) u (λ q. f (p ∙ q)))

-- ---- the loop that counts: the first u rows have their numbers, and so many trees appear first below u

pub record Counting (cls : List ℕ) (n : ℕ) (old numbers : List ℕ) (count u : ℕ) : Type 0 where
  pub filled : Filled old (trees_below (class_of cls)) n numbers u
  pub counts : count ≡ trees_below (class_of cls) u
  pub few : count ≤ u

module _ (cls : List ℕ) (n : ℕ) (old : List ℕ) where
  pub counting_none : Counting cls n old old 0 0
  counting_none =
      record {
        filled = filled_none old (trees_below (class_of cls)) n;
        counts = sym (below_none (class_of cls));
        few = omega arith;
      }

  module _ (numbers : List ℕ) (count u : ℕ) (s : Counting cls n old numbers count u) where
    pub counting_more : (more : ℕ) → u < n → n ≤ length old → more ≡ trees_below (class_of cls) (u + 1) → Counting cls n old (set numbers u count) more (u + 1)
    counting_more more h l e =
        record {
          filled = filled_more old (trees_below (class_of cls)) n numbers u count s.filled h l s.counts;
          counts = e;
          few = omega (arith, below_most (class_of cls) (u + 1));
        }

    pub counting_numbers : n ≤ u → numbers ≡ over_front (firsts (trees_below (class_of cls)) n) old
    counting_numbers = filled_all old (trees_below (class_of cls)) n numbers u s.filled

    pub counting_count : n ≤ u → count ≡ trees_below (class_of cls) n
    counting_count h = let e : u ≡ n = omega (arith, s.filled.some) in rw e at s.counts

-- ---- the loop that counts alone

pub record TreesSoFar (cls : List ℕ) (n count u : ℕ) : Type 0 where
  pub counts : count ≡ trees_below (class_of cls) u
  pub few : count ≤ u
  pub some : u ≤ n

module _ (cls : List ℕ) (n : ℕ) where
  pub trees_none : TreesSoFar cls n 0 0
  trees_none = record { counts = sym (below_none (class_of cls)); few = omega arith; some = omega arith }

  module _ (count u : ℕ) (s : TreesSoFar cls n count u) where
    pub trees_more : (more : ℕ) → u < n → more ≡ trees_below (class_of cls) (u + 1) → TreesSoFar cls n more (u + 1)
    trees_more more h e = record { counts = e; few = omega (arith, below_most (class_of cls) (u + 1)); some = omega arith }

    pub trees_all : n ≤ u → count ≡ trees_below (class_of cls) n
    trees_all h = let e : u ≡ n = omega (arith, s.some) in rw e at s.counts

-- ---- the rows counted

pub counted_rows : {g : Graph} {n : ℕ} (cls old numbers : List ℕ) → Sorted g n (class_of cls) → n ≤ 2048 → n ≤ length cls → n ≤ length old → numbers ≡ over_front (firsts (trees_below (class_of cls)) n) old → Counted n cls numbers
counted_rows {n = n} cls old numbers s few long room e =
    let f = firsts_length (trees_below (class_of cls)) n in
    let all = firsts (trees_below (class_of cls)) n in
    record {
      few = few;
      classes = long;
      numbered = rw e (omega (arith, over_length all old (omega arith)));
      within = λ u h. omega (arith, class_low s u h);
      each = λ u h. rw e (over_front_lem all old (omega arith) u 0 (omega arith) ∙ firsts_at (trees_below (class_of cls)) n u h);
    }

pub number_there : {n : ℕ} {cls numbers : List ℕ} → Counted n cls numbers → (u : ℕ) → u < n → NumberThere cls numbers u
number_there {cls = cls} k u h =
    let w = k.within u h in
    record {
      class = omega (arith, k.classes);
      number = omega (arith, k.numbered);
      counts = k.each (class_of cls u) w;
    }

pub number_read : (cls numbers : List ℕ) (u x : ℕ) → NumberThere cls numbers u → x ≡ class_of cls u → get_or numbers x 0 ≡ row_number (class_of cls) u
unfolding row_number
number_read cls numbers u x t e = rw e t.counts

-- ---- the answers

pub answer_more : (cls old : List ℕ) (stored rows : ℕ) (found : List ℕ) (i v : ℕ) → Filled old (answer_of (class_of cls) stored) rows found i → i < rows → rows ≤ length old → v ≡ row_number (class_of cls) (stored + i) → Filled old (answer_of (class_of cls) stored) rows (set found i v) (i + 1)
unfolding answer_of
answer_more cls old stored rows found i v s h l e =
    filled_more old (answer_of (class_of cls) stored) rows found i v s h l e

-- ---- the whole write

pub written_counted : (most : ℕ) (w b : List ℕ) (stored : ℕ) (table cls answers old numbers : List ℕ) → ToWrite most w b stored table cls answers → length old ≡ 2048 → numbers ≡ over_front (firsts (trees_below (class_of cls)) (stored + length table)) old → Counted (stored + length table) cls numbers
written_counted most w b stored table cls answers old numbers t l e =
    let f = viewed_few t.view in
    counted_rows cls old numbers t.sorted f t.long (omega arith) e

pub write_few : (most : ℕ) (w b : List ℕ) (stored : ℕ) (table cls answers : List ℕ) → ToWrite most w b stored table cls answers → stored + length table ≤ 2048
write_few most w b stored table cls answers t = viewed_few t.view

pub write_room : (most : ℕ) (w b : List ℕ) (stored : ℕ) (table cls answers numbers : List ℕ) → ToWrite most w b stored table cls answers → length numbers ≡ 2048 → stored + length table ≤ length numbers
write_room most w b stored table cls answers numbers t l = let f = viewed_few t.view in omega arith
