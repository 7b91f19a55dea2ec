-- Each word of a mended store is said: two of them are one.
use Prim.Native.Nat.{ℕ, zero, suc, ◌+◌, ◌-◌, ◌<◌}
use native.Mathlib.Omega.{arith}
use native.Mathlib.Numerals.{add-one}
use native.Mathlib.Nat.{add-zero, zero-mul}
use native.Mathlib.Decide.{dec_lt}
use mathlib.Core.Path.{◌≡◌, refl, sym, ◌∙◌}
use mathlib.Core.List.{List}
use lib.ListN.{length, get_or}
use lib.Seq.{ext_get_or}
use Rattle.trees.specs.Graph.{Graph}
use Rattle.store.specs.Layout.{word_at, row_word, input_of}
use Rattle.store.proofs.Room.{word_next}
use Rattle.numbering.specs.Numbers.{trees_below}
use Rattle.numbering.proofs.Counting.{FirstOf, number_taken}
use Rattle.writing.specs.After.{HasRow}
use Rattle.mends.specs.Words.{MendedWords}

-- ---- a word below the rows' end is a word of a row

pub record InRow (most n k : ℕ) : Type 0 where
  pub row : ℕ
  pub word : ℕ
  pub within : row < n
  pub inside : word < most + 2
  pub here : k ≡ row_word most row + word

first_word : (most : ℕ) → row_word most 0 ≡ 1
unfolding row_word
first_word most = rw zero-mul refl

pub in_row : (most n k : ℕ) → 0 < k → k < row_word most n → InRow most n k
in_row most zero k z h = absurd (omega (arith, first_word most))
in_row most (suc n) k z h = go (dec_lt k (row_word most n)) (in_row most n k z)
  where
    go : Dec (k < row_word most n) → (k < row_word most n → InRow most n k) → InRow most (suc n) k
    go (yes q) ih = let r = ih q in record { row = r.row; word = r.word; within = omega (arith, r.within); inside = r.inside; here = r.here }
    go (no q) ih =
        let e : row_word most (suc n) ≡ row_word most n + (most + 2) = rw add-one at (word_next most n) in
        record { row = n; word = k - row_word most n; within = omega arith; inside = omega arith; here = omega arith }

-- ---- rows that say the same have the same words

module _ {most : ℕ} {g : Graph} {c : ℕ → ℕ} {u m : ℕ} {v w : List ℕ} (p : HasRow most g c u v m) (q : HasRow most g c u w m) where
  row_words : (o : ℕ) → o < most + 2 → word_at v (row_word most m + o) ≡ word_at w (row_word most m + o)
  row_words zero h = rw add-zero (p.label ∙ sym q.label)
  row_words (suc zero) h = p.count ∙ sym q.count
  row_words (suc (suc j)) h =
      let e : row_word most m + suc (suc j) ≡ row_word most m + 2 + j = omega arith in
      rw e (go (dec_lt j (g.count u)))
    where
      go : Dec (j < g.count u) → input_of most v m j ≡ input_of most w m j
      go (yes l) = p.used j l ∙ sym (q.used j l)
      go (no l) = p.unused j (omega arith) (omega arith) ∙ sym (q.unused j (omega arith) (omega arith))

pub mended_one : {most n : ℕ} {g : Graph} {c : ℕ → ℕ} {w v x : List ℕ} → MendedWords most g c n w v → MendedWords most g c n w x → v ≡ x
mended_one {most} {n} {g} {c} {w} {v} {x} p q = ext_get_or 0 v x (p.long ∙ sym q.long) each
  where
    in_kept : (k : ℕ) → InRow most (trees_below c n) k → word_at v k ≡ word_at x k
    in_kept k r = go (number_taken c n r.row r.within)
      where
        go : FirstOf c n r.row → word_at v k ≡ word_at x k
        go f =
            let a = rw f.number at (p.kept f.row f.within f.first) in
            let b = rw f.number at (q.kept f.row f.within f.first) in
            rw r.here (row_words a b r.word r.inside)

    each : (k : ℕ) → k < length v → get_or v k 0 ≡ get_or x k 0
    each zero h = p.count ∙ sym q.count
    each (suc k) h = go (dec_lt (suc k) (row_word most (trees_below c n))) (dec_lt (suc k) (row_word most n))
      where
        go : Dec (suc k < row_word most (trees_below c n)) → Dec (suc k < row_word most n) → word_at v (suc k) ≡ word_at x (suc k)
        go (yes a) d = in_kept (suc k) (in_row most (trees_below c n) (suc k) (omega arith) a)
        go (no a) (yes d) = p.freed (suc k) (omega arith) d ∙ sym (q.freed (suc k) (omega arith) d)
        go (no a) (no d) = p.past (suc k) (omega arith) ∙ sym (q.past (suc k) (omega arith))
