-- The store after: each new row stands at its tree's number, and the rows in use before, the words past the rows and the length stand as they were.
use Prim.Native.Nat.{ℕ, ◌+◌, ◌≤◌, ◌<◌}
use native.Mathlib.Omega.{arith}
use native.Mathlib.Decide.{dec_le}
use mathlib.Core.Path.{◌≡◌, refl, ap, ◌∙◌}
use mathlib.Core.List.{List}
use lib.ListN.{length, set, length-set}
use lib.Seq.{get_or-set_same, get_or-set_other}
use Rattle.rules.specs.Lists.{widest}
use Rattle.rules.proofs.Lists.{room_length, room_at, room_past}
use Rattle.trees.specs.Graph.{Graph}
use Rattle.store.specs.Layout.{word_at, in_use, row_word, label_of, count_of, input_of}
use Rattle.store.specs.Rows.{RowThere}
use Rattle.store.proofs.Room.{row_positive, row_there, word_later}
use Rattle.store.proofs.Puts.{put_before, put_past, put_label, put_count, put_input, else_label, else_count, else_input}
use Rattle.numbering.specs.Numbers.{trees_below}
use Rattle.numbering.proofs.Counting.{below_mono, first_below, below_all}
use Rattle.writing.specs.After.{input_number, new_row, rows_put, store_written, HasRow}
use Rattle.writing.specs.Asked.{Roomy}
use Rattle.writing.proofs.Clauses.{rows_put_none, rows_put_hit, rows_put_keep, rows_put_length}

-- ---- what is written

-- the rows that are put fit the store: its own rows come first, each the first of its tree
pub record Fitting (most : ℕ) (g : Graph) (c : ℕ → ℕ) (stored n : ℕ) (w : List ℕ) : Type 0 where
  pub roomy : Roomy most n c w
  pub own : (u : ℕ) → u < stored → c u ≡ u
  pub within : stored ≤ n
  pub counts : (u : ℕ) → u < n → g.count u ≤ most

-- row m stands in v as in w
pub record RowStands (most : ℕ) (w v : List ℕ) (m : ℕ) : Type 0 where
  pub label : label_of most v m ≡ label_of most w m
  pub count : count_of most v m ≡ count_of most w m
  pub inputs : (j : ℕ) → j < most → input_of most v m j ≡ input_of most w m j

-- v is the store w with the new rows among the first n put; word 0 is nobody's row
pub record Written (most : ℕ) (g : Graph) (c : ℕ → ℕ) (stored n : ℕ) (w v : List ℕ) : Type 0 where
  pub long : length v ≡ length w
  pub new : (u : ℕ) → stored ≤ u → u < n → c u ≡ u → HasRow most g c u v (trees_below c u)
  pub old : (m : ℕ) → m < stored → RowStands most w v m
  pub before : (k : ℕ) → 0 < k → k < row_word most stored → word_at v k ≡ word_at w k
  pub past : (k : ℕ) → row_word most (trees_below c n) ≤ k → word_at v k ≡ word_at w k

-- ---- rows that stand

pub stands_here : (most : ℕ) (w : List ℕ) (m : ℕ) → RowStands most w w m
stands_here most w m = record { label = refl; count = refl; inputs = λ j h. refl }

pub stands_on : {most : ℕ} {w v v' : List ℕ} {m : ℕ} → RowStands most w v m → RowStands most v v' m → RowStands most w v' m
stands_on r s =
    record {
      label = s.label ∙ r.label;
      count = s.count ∙ r.count;
      inputs = λ j h. s.inputs j h ∙ r.inputs j h;
    }

-- a row of the view stays where it stands
pub row_kept : {most : ℕ} {g : Graph} {c : ℕ → ℕ} {u : ℕ} {v v' : List ℕ} {m : ℕ} → HasRow most g c u v m → RowStands most v v' m → g.count u ≤ most → HasRow most g c u v' m
row_kept r s few =
    record {
      label = s.label ∙ r.label;
      count = s.count ∙ r.count;
      used = λ j h. s.inputs j (omega arith) ∙ r.used j h;
      unused = λ j h k. s.inputs j k ∙ r.unused j h k;
    }

-- word 0 is no row's
pub word_set_lem : (v : List ℕ) (x k : ℕ) → 0 < k → word_at (set v 0 x) k ≡ word_at v k
word_set_lem v x k h = get_or-set_other v 0 k x 0 (λ e. omega arith)

pub stands_set : (most : ℕ) (v : List ℕ) (x m : ℕ) → RowStands most v (set v 0 x) m
stands_set most v x m =
    let p = row_positive most m in
    record {
      label = word_set_lem v x (row_word most m) p;
      count = word_set_lem v x (row_word most m + 1) (omega arith);
      inputs = λ j h. word_set_lem v x (row_word most m + 2 + j) (omega arith);
    }

row_later : (most m k : ℕ) → m ≤ k → row_word most m ≤ row_word most k
row_later most m k h = go (dec_le k m)
  where
    go : Dec (k ≤ m) → row_word most m ≤ row_word most k
    go (yes q) = let e : m ≡ k = omega arith in rw e (omega arith)
    go (no q) = omega (arith, word_later most m k (omega arith))

-- ---- one row put

module _ {most : ℕ} {g : Graph} {c : ℕ → ℕ} {stored n : ℕ} {w : List ℕ} (f : Fitting most g c stored n w) where
  abbrev put : ℕ → List ℕ
  put = rows_put most g c stored w

  few : (u : ℕ) → u < n → g.count u ≤ widest
  few u h = omega (arith, f.counts u h, f.roomy.limit)

  module _ (u : ℕ) (a : stored ≤ u) (h : u < n) (e : c u ≡ u) where
    there : RowThere most (put u) (trees_below c u)
    there =
        row_there most (put u) (trees_below c n) (trees_below c u) f.roomy.limit (first_below c u n e h) (rw (rows_put_length most g c stored w u) f.roomy.room)

    full : length (new_row g c u).inputs ≡ widest
    unfolding new_row
    full = room_length widest (input_number g c u) (g.count u) (few u h)

    here : HasRow most g c u (put (u + 1)) (trees_below c u)
    unfolding new_row
    here =
        let step = rows_put_hit most g c stored w u a e in
        let input = put_input most (put u) (put (u + 1)) (trees_below c u) (new_row g c u) there full step in
        let l = few u h in
        let k = f.counts u h in
        record {
          label = put_label most (put u) (put (u + 1)) (trees_below c u) (new_row g c u) there full step;
          count = put_count most (put u) (put (u + 1)) (trees_below c u) (new_row g c u) there full step;
          used = λ j q. input j (omega arith) ∙ room_at widest (input_number g c u) (g.count u) l j q;
          unused = λ j q r. input j r ∙ room_past widest (input_number g c u) (g.count u) l j q (omega (arith, f.roomy.limit));
        }

    module _ (m : ℕ) (other : m ≡ trees_below c u → ⊥) where
      elsewhere : RowStands most (put u) (put (u + 1)) m
      elsewhere =
          let step = rows_put_hit most g c stored w u a e in
          record {
            label = else_label most (put u) (put (u + 1)) (trees_below c u) (new_row g c u) there full step m other;
            count = else_count most (put u) (put (u + 1)) (trees_below c u) (new_row g c u) there full step m other;
            inputs = else_input most (put u) (put (u + 1)) (trees_below c u) (new_row g c u) there full step m other;
          }

    word_before : (k : ℕ) → k < row_word most (trees_below c u) → word_at (put (u + 1)) k ≡ word_at (put u) k
    word_before = put_before most (put u) (put (u + 1)) (trees_below c u) (new_row g c u) there full (rows_put_hit most g c stored w u a e)

    word_past : (k : ℕ) → row_word most (trees_below c u + 1) ≤ k → word_at (put (u + 1)) k ≡ word_at (put u) k
    word_past = put_past most (put u) (put (u + 1)) (trees_below c u) (new_row g c u) there full (rows_put_hit most g c stored w u a e)

  -- ---- all rows put

  -- rows of the sheet have numbers from the store's count on
  low : (u : ℕ) → stored ≤ u → stored ≤ trees_below c u
  low u h = omega (arith, below_mono c stored u h, below_all c stored f.own)

  rows_new : (u : ℕ) → stored ≤ u → u < n → c u ≡ u → HasRow most g c u (put n) (trees_below c u)
  rows_new u a h e =
      rows_put_keep most g c stored w (λ v. HasRow most g c u v (trees_below c u)) (u + 1) n (omega arith)
      (λ x b l d q r. row_kept r (elsewhere x d l q (trees_below c u) (λ s. omega (arith, first_below c u x e (omega arith)))) (f.counts u h))
      (here u a h e)

  rows_old : (m : ℕ) → m < stored → RowStands most w (put n) m
  rows_old m h =
      rows_put_keep most g c stored w (λ v. RowStands most w v m) 0 n (omega arith)
      (λ x b l d q r. stands_on r (elsewhere x d l q m (λ s. omega (arith, low x d))))
      (rw (rows_put_none most g c stored w) (stands_here most w m))

  rows_before : (k : ℕ) → k < row_word most stored → word_at (put n) k ≡ word_at w k
  rows_before k h =
      rows_put_keep most g c stored w (λ v. word_at v k ≡ word_at w k) 0 n (omega arith)
      (λ x b l d q r. word_before x d l q k (omega (arith, row_later most stored (trees_below c x) (low x d))) ∙ r)
      (ap (λ v. word_at v k) (rows_put_none most g c stored w))

  rows_past : (k : ℕ) → row_word most (trees_below c n) ≤ k → word_at (put n) k ≡ word_at w k
  rows_past k h =
      rows_put_keep most g c stored w (λ v. word_at v k ≡ word_at w k) 0 n (omega arith)
      (λ x b l d q r. word_past x d l q k (omega (arith, row_later most (trees_below c x + 1) (trees_below c n) (omega (arith, first_below c x n q l)))) ∙ r)
      (ap (λ v. word_at v k) (rows_put_none most g c stored w))

  pub rows_written : Written most g c stored n w (rows_put most g c stored w n)
  rows_written =
      record {
        long = rows_put_length most g c stored w n;
        new = rows_new;
        old = rows_old;
        before = λ k z h. rows_before k h;
        past = rows_past;
      }

  -- ---- and the count

  pub after_written : Written most g c stored n w (store_written most g c stored n w)
  unfolding store_written
  after_written =
      record {
        long = length-set (put n) 0 (trees_below c n) ∙ rows_written.long;
        new = λ u a h e. row_kept (rows_new u a h e) (stands_set most (put n) (trees_below c n) (trees_below c u)) (f.counts u h);
        old = λ m h. stands_on (rows_old m h) (stands_set most (put n) (trees_below c n) m);
        before = λ k z h. word_set_lem (put n) (trees_below c n) k z ∙ rows_before k h;
        past = λ k h. word_set_lem (put n) (trees_below c n) k (omega (arith, row_positive most (trees_below c n))) ∙ rows_past k h;
      }

pub after_count : (most : ℕ) (g : Graph) (c : ℕ → ℕ) (stored n : ℕ) (w : List ℕ) → 0 < length w → in_use (store_written most g c stored n w) ≡ trees_below c n
unfolding store_written
after_count most g c stored n w h =
    get_or-set_same (rows_put most g c stored w n) 0 (trees_below c n) 0 (omega (arith, rows_put_length most g c stored w n))
