-- The choices of lowest rows that the outcome speaks of: among the rows that are not dropped, and among boxes. The code computes neither.
use Prim.Native.Nat.{ℕ, ◌<◌}
use native.Mathlib.Omega.{arith}
use native.Mathlib.Decide.{dec_lt, ℕ_discrete}
use mathlib.Core.Path.{◌≡◌, refl, sym, ap, ◌∙◌}
use mathlib.Core.Bool.{Bool, true, false}
use mathlib.Core.List.{List}
use mathlib.Core.Logic.{inl, inr}
use lib.Dec.{leb}
use borrow.Author.Tests.{le-leb, lt-leb, eq-eqb, ne_eqb}
use Rattle.rules.specs.Pick.{pick}
use Rattle.rules.specs.Answers.{Says, says_yes, says_no}
use Rattle.trees.specs.Graph.{Graph}
use Rattle.trees.specs.Agreement.{SameTree}
use Rattle.trees.specs.Sorting.{Sorted}
use Rattle.trees.proofs.Agreement.{same_sym, same_trans}
use Rattle.wires.proofs.Following.{Told, told_wire, told_plain, told}
use Rattle.store.specs.Layout.{store_graph}
use Rattle.rounds.specs.Classes.{class_of}
use Rattle.mends.specs.Dropped.{Dropped, NoBox, left}
use Rattle.mends.specs.Lowest.{Lowest}
use Rattle.mends.specs.Least.{chosen}
use Rattle.mends.specs.Counts.{tally, total, goes_at, wire_of, wire_at, unused_set, cleared_at}
use Rattle.mends.specs.Entries.{entry_of, Marked}
use Rattle.mends.proofs.Choosing.{chosen_lowest}
use Rattle.mends.proofs.Unique.{tally_same, total_same}
use Rattle.marking.specs.Marking.{RowsMarked}
use Rattle.tallying.specs.Counted.{marked_at, wire_left, cleared_left, Counted}
use Rattle.renumbering.specs.Numbered.{Chosen}

-- rows that go by another name for the same
pub lowest_as : {g : Graph} {n : ℕ} {A B : ℕ → Type 0} {c : ℕ → ℕ} → ((u : ℕ) → u < n → A u → B u) → ((u : ℕ) → u < n → B u → A u) → Lowest g n A c → Lowest g n B c
lowest_as there back s =
    record {
      goes = λ u h x. s.goes u h (back u h x);
      gone = λ u h l. there u h (s.gone u h l);
      stays = s.stays;
      has = s.has;
      lowest = s.lowest;
    }

marked_told : (list : List ℕ) (u : ℕ) → Says (Marked list u) (marked_at list u)
unfolding marked_at
marked_told list u = go (ℕ_discrete (entry_of list u) 4294967295)
  where
    go : Dec (Marked list u) → Says (Marked list u) (marked_at list u)
    go (yes q) = rw (eq-eqb (entry_of list u) 4294967295 q) (says_yes q)
    go (no q) = rw (ne_eqb (entry_of list u) 4294967295 q) (says_no q)

unmarked_at : (list : List ℕ) (u : ℕ) → marked_at list u ≡ false → Marked list u → ⊥
unmarked_at list u e = go (rw e at (marked_told list u))
  where
    go : Says (Marked list u) false → Marked list u → ⊥
    go (says_no f) = f

-- neither marked nor a wire
abbrev out_at : (most : ℕ) → (w list : List ℕ) → ℕ → Bool
out_at most w list u = pick (marked_at list u) true (wire_of most w u)

module _ (most n : ℕ) (w old list : List ℕ) (m : RowsMarked most n w old list) (s : Graph) (cls : List ℕ) (o : Sorted s n (class_of cls))
    (same : (u : ℕ) → u < n → (Marked list u → ⊥) → SameTree s u (left most w) u) where
  marked_of : (u : ℕ) → u < n → Dropped most w n u → Marked list u
  marked_of u h d = go (ℕ_discrete (entry_of list u) 4294967295)
    where
      go : Dec (Marked list u) → Marked list u
      go (yes q) = q
      go (no q) = absurd (m.left u h q d)

  -- ---- among the rows that are not dropped

  abbrev pub class : ℕ → ℕ
  class = chosen (marked_at list) (class_of cls) n

  by_marks : Lowest (left most w) n (Marked list) class
  by_marks =
      chosen_lowest (marked_at list) (class_of cls) (λ u h. marked_told list u) o (λ u h e. same u h (unmarked_at list u e))

  pub class_lowest : Lowest (left most w) n (Dropped most w n) class
  class_lowest = lowest_as (λ u h x. m.dropped u h x) marked_of by_marks

  stays_unmarked : (u : ℕ) → u < n → class u < n → Marked list u → ⊥
  stays_unmarked u h l x = let e = by_marks.goes u h x in omega arith

  pub class_chosen : Chosen (left most w) n list cls class
  class_chosen =
      record {
        lowest = by_marks;
        tree = λ u v h k l i e. same_trans (same_sym (same u h (stays_unmarked u h l))) (same_trans (o.exact.tree u v h k e) (same v k (stays_unmarked v k i)));
        class = λ u v h k l i t. o.exact.class u v h k (same_trans (same u h (stays_unmarked u h l)) (same_trans t (same_sym (same v k (stays_unmarked v k i)))));
      }

  -- ---- among boxes

  abbrev pub box : ℕ → ℕ
  box = chosen (out_at most w list) (class_of cls) n

  out_told : (u : ℕ) → u < n → Says (NoBox most w n u) (out_at most w list u)
  unfolding store_graph
  out_told u h = go (marked_at list u) (marked_told list u) (told (store_graph most w) u)
    where
      go : (x : Bool) → Says (Marked list u) x → {y : Bool} → Told (store_graph most w) u y → Says (NoBox most w n u) (pick x true y)
      go true (says_yes q) t = says_yes (inl (m.dropped u h q))
      go false (says_no f) (told_wire q) = says_yes (inr q)
      go false (says_no f) (told_plain p) = says_no no_box
        where
          no_box : NoBox most w n u → ⊥
          no_box (inl d) = m.left u h f d
          no_box (inr q) = p q

  pub box_lowest : Lowest (left most w) n (NoBox most w n) box
  box_lowest = chosen_lowest (out_at most w list) (class_of cls) out_told o (λ u h e. same u h (unmarked_at list u (not_out u e)))
    where
      not_out : (u : ℕ) → out_at most w list u ≡ false → marked_at list u ≡ false
      not_out u e = go (marked_at list u) refl e
        where
          go : (x : Bool) → marked_at list u ≡ x → pick x true (wire_of most w u) ≡ false → x ≡ false
          go true q r = let z : ◌≡◌ {A = ℕ} 0 1 = cc in absurd (omega arith)
          go false q r = refl

  -- ---- what was counted by marks

  marked_goes : (u : ℕ) → u < n → marked_at list u ≡ leb n (class u)
  marked_goes u h = go (marked_at list u) (marked_told list u)
    where
      go : (x : Bool) → Says (Marked list u) x → x ≡ leb n (class u)
      go true (says_yes q) = let e = by_marks.goes u h q in sym (le-leb n (class u) (omega arith))
      go false (says_no f) = at (dec_lt (class u) n)
        where
          at : Dec (class u < n) → false ≡ leb n (class u)
          at (yes l) = sym (lt-leb n (class u) l)
          at (no l) = absurd (f (by_marks.gone u h (omega arith)))

  module _ (dropped wires cleared : ℕ) (k : Counted most n w list dropped wires cleared) where
    pub drops_class : dropped ≡ tally (goes_at n class) n
    drops_class = k.drops ∙ tally_same (marked_at list) (goes_at n class) n marked_goes

    pub wired_class : wires ≡ tally (wire_at n class (wire_of most w)) n
    unfolding wire_left
    wired_class =
        k.wired
        ∙ tally_same (wire_left most w list) (wire_at n class (wire_of most w)) n (λ u h. ap (λ x. pick x false (wire_of most w u)) (marked_goes u h))

    pub clears_class : cleared ≡ total (cleared_at most w n class) n
    unfolding cleared_left
    clears_class =
        k.clears
        ∙ total_same (cleared_left most w list) (cleared_at most w n class) n (λ u h. ap (λ x. pick x 0 (tally (unused_set most w u) most)) (marked_goes u h))
