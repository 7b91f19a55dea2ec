-- Where rows stand among the words, how many there is room for, and that a row below the capacity is there whole.
use Prim.Native.Nat.{ℕ, suc, ◌+◌, ◌-◌, ◌*◌, ◌/◌, ◌≤◌, ◌<◌, min}
use native.Mathlib.Omega.{arith}
use native.Mathlib.Numerals.{add-one}
use native.Mathlib.Decide.{ℕ_discrete}
use native.Mathlib.Nat.{suc-mul, mul-le-mul, mul-le-mul_right, min-le_left, min-le_right, min_comm, le-div_iff_mul-le}
use mathlib.Core.Path.{◌≡◌, refl, ◌∙◌}
use mathlib.Core.List.{List}
use lib.ListN.{length}
use borrow.Author.Tests.{eq-eqb, ne_eqb}
use Rattle.std.specs.Prelude.{Option, Some, None}
use Rattle.rules.specs.Lists.{widest}
use Rattle.store.specs.Layout.{row_word, capacity_of, capacity_answer}
use Rattle.store.specs.Rows.{RowThere}

-- ---- where a row starts

pub row_positive : (most n : ℕ) → 0 < row_word most n
unfolding row_word
row_positive most n = omega arith

-- a row ends where a later row starts, or before
pub word_later : (most n m : ℕ) → n < m → row_word most n + (most + 2) ≤ row_word most m
unfolding row_word
word_later most n m h =
    let more : suc n * (most + 2) ≤ m * (most + 2) = mul-le-mul_right (most + 2) h in
    omega (arith, suc-mul n (most + 2))

pub word_next : (most n : ℕ) → row_word most (n + 1) ≡ row_word most n + (most + 2)
unfolding row_word
word_next most n = rw add-one (omega (arith, suc-mul n (most + 2)))

-- the rows' words are few: nothing wraps
pub words_few : (most n : ℕ) → most ≤ widest → n < 1024 → n * (most + 2) ≤ 1024 * (widest + 2)
words_few most n h l = mul-le-mul {n₂ = 1024} {m₂ = widest + 2} (omega arith) (omega arith)

-- ---- the capacity

module _ (most words : ℕ) where
  pub answer_none : words ≡ 0 → None ≡ capacity_answer most words
  unfolding capacity_answer
  answer_none e = simp (eq-eqb _ _ e)

  pub answer_rows : (rows : ℕ) → (words ≡ 0 → ⊥) → rows ≡ capacity_of most words → Some rows ≡ capacity_answer most words
  unfolding capacity_answer
  answer_rows rows e c = simp (ne_eqb _ _ e, c)

  pub answer_some : (rows : ℕ) → (words ≡ 0 → ⊥) → rows ≡ min ((words - 1) / (most + 2)) 1024 → Some rows ≡ capacity_answer most words
  unfolding capacity_of
  answer_some rows e q = answer_rows rows e (q ∙ min_comm _ _)

  -- what the answer tells
  module _ (answer : Option ℕ) (e : answer ≡ capacity_answer most words) where
    pub none_words : answer ≡ None → words ≡ 0
    none_words n = go (ℕ_discrete words 0)
      where
        go : Dec (words ≡ 0) → words ≡ 0
        go (yes q) = q
        go (no q) = let r = answer_rows (capacity_of most words) q refl in let z : ◌≡◌ {A = ℕ} 0 1 = cc in absurd (omega arith)

    module _ (capacity : ℕ) (r : answer ≡ Some capacity) where
      pub some_words : 0 < words
      some_words = go (ℕ_discrete words 0)
        where
          go : Dec (words ≡ 0) → 0 < words
          go (yes q) = let n = answer_none q in let z : ◌≡◌ {A = ℕ} 0 1 = cc in absurd (omega arith)
          go (no q) = omega arith

      pub rows_words : capacity ≡ capacity_of most words
      rows_words = let s = some_words in let n = answer_rows (capacity_of most words) (λ z. omega arith) refl in cc

-- ---- a row below the capacity is there

pub row_there : (most : ℕ) (w : List ℕ) (rows n : ℕ) → most ≤ widest → n < rows → rows ≤ capacity_of most (length w) → RowThere most w n
unfolding capacity_of row_word
row_there most w rows n h l f =
    let low = min-le_left 1024 ((length w - 1) / (most + 2)) in
    let few = min-le_right 1024 ((length w - 1) / (most + 2)) in
    let all : rows * (most + 2) ≤ length w - 1 = (le-div_iff_mul-le {k = most + 2} {x = rows} {y = length w - 1} (omega arith)).0 (omega arith) in
    let later = word_later most n rows l in
    record { limit = h; low = omega arith; room = omega arith }
