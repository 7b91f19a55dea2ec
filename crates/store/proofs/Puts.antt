-- A row put into the store: its words one after another, and what stands in the store then.
use Prim.Native.Nat.{ℕ, suc, ◌+◌, ◌≤◌, ◌<◌}
use native.Mathlib.Omega.{arith}
use native.Mathlib.Numerals.{add-one, add-two}
use native.Mathlib.Nat.{add-zero}
use native.Mathlib.Decide.{dec_lt}
use mathlib.Core.Path.{◌≡◌, ◌∙◌}
use mathlib.Core.List.{List, ◌++◌, append_assoc}
use lib.ListN.{length, get_or, set, take, drop}
use lib.Seq.{sets, length-take-le, get_or-take, sets-eq, drop-drop}
use Rattle.rules.specs.Lists.{widest}
use Rattle.store.specs.Layout.{word_at, row_word, label_of, count_of, input_of}
use Rattle.store.specs.Rows.{RowThere, words_of_row}
use Rattle.store.specs.declared.row.Row.{Row}
use Rattle.store.proofs.Room.{word_later, word_next}
use Rattle.store.proofs.Sets.{sets_before, sets_past, sets_within}

-- ---- the inputs, written in one go

pub inputs_put : (w inputs ys : List ℕ) (most at k : ℕ) → k ≡ most → ys ≡ take most inputs → length inputs ≡ widest → most ≤ widest → at + most ≤ length w → take at w ++ (ys ++ drop k (drop at w)) ≡ sets w at (take most inputs)
inputs_put w inputs ys most at k n e full limit room =
    let l : length (take most inputs) ≡ most = length-take-le most inputs (omega arith) in
    rw (n, e, sets-eq (take most inputs) w at (omega arith), l, append_assoc, drop-drop)

-- ---- the row's words: label, count, and as many inputs as there is room for

pub row_put : (most : ℕ) (w v : List ℕ) (n at : ℕ) (row : Row) → at ≡ row_word most n → v ≡ sets (set (set w at row.label) (at + 1) row.count) (at + 2) (take most row.inputs) → v ≡ sets w (row_word most n) (words_of_row most row)
unfolding words_of_row
row_put most w v n at row p e = rw (add-one, add-two, p) at e

-- ---- what stands in the store then

module _ (most : ℕ) (w v : List ℕ) (n : ℕ) (row : Row) (there : RowThere most w n) (full : length row.inputs ≡ widest) (e : v ≡ sets w (row_word most n) (words_of_row most row)) where
  long : length (words_of_row most row) ≡ most + 2
  unfolding words_of_row
  long =
      let l : length (take most row.inputs) ≡ most = length-take-le most row.inputs (omega (arith, there.limit)) in
      omega arith

  -- a word before the row, past it, and of it
  pub put_before : (k : ℕ) → k < row_word most n → word_at v k ≡ word_at w k
  put_before k h = rw e (sets_before 0 w (row_word most n) (words_of_row most row) k h)

  pub put_past : (k : ℕ) → row_word most (n + 1) ≤ k → word_at v k ≡ word_at w k
  put_past k h = rw e (sets_past 0 w (row_word most n) (words_of_row most row) k (omega (arith, long, word_next most n)))

  pub put_word : (k : ℕ) → k < most + 2 → word_at v (row_word most n + k) ≡ get_or (words_of_row most row) k 0
  put_word k h = rw e (sets_within 0 w (row_word most n) (words_of_row most row) k (omega (arith, long)) (omega (arith, long, there.room)))

  -- ---- the row put

  pub put_label : label_of most v n ≡ row.label
  unfolding words_of_row
  put_label = rw add-zero at (put_word 0 (omega arith))

  pub put_count : count_of most v n ≡ row.count
  unfolding words_of_row
  put_count = put_word 1 (omega arith)

  pub put_input : (j : ℕ) → j < most → input_of most v n j ≡ get_or row.inputs j 0
  unfolding words_of_row
  put_input j h =
      let p : row_word most n + 2 + j ≡ row_word most n + suc (suc j) = omega arith in
      rw p (put_word (suc (suc j)) (omega arith) ∙ get_or-take most row.inputs j 0 h)

  -- ---- another row

  module _ (m : ℕ) (other : m ≡ n → ⊥) where
    pub else_word : (k : ℕ) → k < most + 2 → word_at v (row_word most m + k) ≡ word_at w (row_word most m + k)
    else_word k h = go (dec_lt m n)
      where
        go : Dec (m < n) → word_at v (row_word most m + k) ≡ word_at w (row_word most m + k)
        go (yes q) = put_before (row_word most m + k) (omega (arith, word_later most m n q))
        go (no q) = put_past (row_word most m + k) (omega (arith, word_later most n m (omega arith), word_next most n))

    pub else_label : label_of most v m ≡ label_of most w m
    else_label = rw add-zero at (else_word 0 (omega arith))

    pub else_count : count_of most v m ≡ count_of most w m
    else_count = else_word 1 (omega arith)

    pub else_input : (j : ℕ) → j < most → input_of most v m j ≡ input_of most w m j
    else_input j h =
        let p : row_word most m + 2 + j ≡ row_word most m + (2 + j) = omega arith in
        rw p (else_word (2 + j) (omega arith))
