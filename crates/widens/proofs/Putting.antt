-- Row after row put into the target: each stands there as in the old store, and the words past them stand as they were.
use Prim.Native.Nat.{ℕ, zero, suc, ◌+◌, ◌≤◌, ◌<◌}
use native.Mathlib.Omega.{arith}
use native.Mathlib.Numerals.{add-one}
use native.Mathlib.Decide.{dec_lt}
use mathlib.Core.Path.{◌≡◌, refl, ap, ◌∙◌}
use mathlib.Core.List.{List}
use lib.ListN.{length, length-set}
use lib.Seq.{sets, length-sets, get_or-set_same, get_or-set_other}
use Rattle.rules.specs.Lists.{widest}
use Rattle.rules.proofs.Lists.{room_at, room_past}
use Rattle.store.specs.Layout.{word_at, in_use, row_word, label_of, count_of, input_of, capacity_of}
use Rattle.store.specs.Rows.{RowThere, row_of, words_of_row}
use Rattle.store.proofs.Rows.{row_long}
use Rattle.store.proofs.Room.{row_positive, row_there, word_next}
use Rattle.store.proofs.Puts.{put_past, put_label, put_count, put_input, else_label, else_count, else_input}
use Rattle.widens.specs.Widened.{rows_widened, widened}

-- row m of v is row m of the old store, its further input words zero
pub record SameRow (from to : ℕ) (old v : List ℕ) (m : ℕ) : Type 0 where
  pub label : label_of to v m ≡ label_of from old m
  pub count : count_of to v m ≡ count_of from old m
  pub inputs : (j : ℕ) → j < from → input_of to v m j ≡ input_of from old m j
  pub further : (j : ℕ) → from ≤ j → j < to → input_of to v m j ≡ 0

-- the first n rows stand in v, and the words past them as in the target
pub record RowsTaken (from to : ℕ) (old target : List ℕ) (n : ℕ) (v : List ℕ) : Type 0 where
  pub rows : (m : ℕ) → m < n → SameRow from to old v m
  pub past : (k : ℕ) → row_word to n ≤ k → word_at v k ≡ word_at target k

-- ---- the length

module _ (from to : ℕ) (old target : List ℕ) where
  pub rows_length : (n : ℕ) → length (rows_widened from to old target n) ≡ length target
  unfolding rows_widened
  rows_length zero = refl
  rows_length (suc n) =
      length-sets (rows_widened from to old target n) (row_word to n) (words_of_row to (row_of from old n)) ∙ rows_length n

  pub widened_length : length (widened from to old target) ≡ length target
  unfolding widened
  widened_length = length-set (rows_widened from to old target (in_use old)) 0 (in_use old) ∙ rows_length (in_use old)

  pub widened_count : 0 < length target → in_use (widened from to old target) ≡ in_use old
  unfolding widened
  widened_count h =
      get_or-set_same (rows_widened from to old target (in_use old)) 0 (in_use old) 0 (omega (arith, rows_length (in_use old)))

-- ---- one row more

module _ (from to : ℕ) (old w v : List ℕ) (n : ℕ) (grows : from ≤ to) (t : RowThere to w n) (e : v ≡ sets w (row_word to n) (words_of_row to (row_of from old n))) where
  fits : from ≤ widest
  fits = omega (arith, t.limit)

  full : length (row_of from old n).inputs ≡ widest
  full = row_long from old n fits

  put_here : SameRow from to old v n
  unfolding row_of
  put_here =
      record {
        label = put_label to w v n (row_of from old n) t full e;
        count = put_count to w v n (row_of from old n) t full e;
        inputs = λ j h. put_input to w v n (row_of from old n) t full e j (omega arith) ∙ room_at widest (input_of from old n) from fits j h;
        further = λ j h l. put_input to w v n (row_of from old n) t full e j l ∙ room_past widest (input_of from old n) from fits j h (omega (arith, t.limit));
      }

  put_else : (m : ℕ) → (m ≡ n → ⊥) → SameRow from to old w m → SameRow from to old v m
  put_else m o s =
      record {
        label = else_label to w v n (row_of from old n) t full e m o ∙ s.label;
        count = else_count to w v n (row_of from old n) t full e m o ∙ s.count;
        inputs = λ j h. else_input to w v n (row_of from old n) t full e m o j (omega arith) ∙ s.inputs j h;
        further = λ j h l. else_input to w v n (row_of from old n) t full e m o j l ∙ s.further j h l;
      }

  taken_more : (target : List ℕ) → RowsTaken from to old target n w → RowsTaken from to old target (suc n) v
  taken_more target s =
      record {
        rows = λ m h. go m h (dec_lt m n);
        past = λ k h. put_past to w v n (row_of from old n) t full e k (rw add-one h) ∙ s.past k (omega (arith, word_next to n, ap (row_word to) (add-one n)));
      }
    where
      go : (m : ℕ) → m < suc n → Dec (m < n) → SameRow from to old v m
      go m h (yes l) = put_else m (λ q. omega arith) (s.rows m l)
      go m h (no l) = let q : m ≡ n = omega arith in rw q put_here

-- ---- all rows, and the count

module _ (from to : ℕ) (old target : List ℕ) (grows : from ≤ to) (limit : to ≤ widest) where
  rows_taken : (n rows : ℕ) → n ≤ rows → rows ≤ capacity_of to (length target) → RowsTaken from to old target n (rows_widened from to old target n)
  unfolding rows_widened
  rows_taken zero rows h f = record { rows = λ m l. absurd (omega arith); past = λ k l. refl }
  rows_taken (suc n) rows h f =
      let there = row_there to (rows_widened from to old target n) rows n limit h (rw (rows_length from to old target n) f) in
      taken_more from to old (rows_widened from to old target n) (rows_widened from to old target (suc n)) n grows there refl target
      (rows_taken n rows (omega arith) f)

  module _ (room : in_use old ≤ capacity_of to (length target)) where
    all_taken : RowsTaken from to old target (in_use old) (rows_widened from to old target (in_use old))
    all_taken = rows_taken (in_use old) (in_use old) (omega arith) room

    -- word 0 is no row's
    word_kept : (k : ℕ) → 0 < k → word_at (widened from to old target) k ≡ word_at (rows_widened from to old target (in_use old)) k
    unfolding widened
    word_kept k h = get_or-set_other (rows_widened from to old target (in_use old)) 0 k (in_use old) 0 (λ e. omega arith)

    pub widened_row : (m : ℕ) → m < in_use old → SameRow from to old (widened from to old target) m
    widened_row m h =
        let p = row_positive to m in
        let s = all_taken.rows m h in
        record {
          label = word_kept (row_word to m) p ∙ s.label;
          count = word_kept (row_word to m + 1) (omega arith) ∙ s.count;
          inputs = λ j l. word_kept (row_word to m + 2 + j) (omega arith) ∙ s.inputs j l;
          further = λ j l k. word_kept (row_word to m + 2 + j) (omega arith) ∙ s.further j l k;
        }

    -- words past the rows stand
    pub widened_past : (k : ℕ) → row_word to (in_use old) ≤ k → word_at (widened from to old target) k ≡ word_at target k
    widened_past k h = word_kept k (omega (arith, row_positive to (in_use old))) ∙ all_taken.past k h
