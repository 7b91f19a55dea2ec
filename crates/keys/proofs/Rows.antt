-- Rows written: how long they are, and that a row which stands at a place is read there.
use Prim.Native.Nat.{ℕ, zero, suc, ◌+◌, ◌*◌, ◌<◌}
use native.Mathlib.Omega.{arith}
use mathlib.Core.Path.{◌≡◌, refl}
use mathlib.Core.List.{List, [], ◌∷◌}
use lib.ListN.{length, length-append}
use borrow.Author.Count.{below_more}
use Rattle.trees.specs.Graph.{Graph}
use Rattle.sheet.specs.Bytes.{be16}
use Rattle.sheet.specs.Format.{label_at, count_at, input_at, start}
use Rattle.keys.specs.Bytes.{bytes16, bytes32, inputs_bytes, row_bytes, rows_bytes}
use Rattle.keys.proofs.Stands.{Stands, stands_first, stands_left, stands_right}
use Rattle.keys.proofs.Fields.{two_length, four_length, two_read, four_read}

-- row k of a graph is read at a place
pub record ReadsRow (b : List ℕ) (at : ℕ) (g : Graph) (k : ℕ) : Type 0 where
  pub label : label_at b at ≡ g.label k
  pub count : count_at b at ≡ g.count k
  pub input : (j : ℕ) → j < g.count k → input_at b at j ≡ g.input k j

module _ (g : Graph) where
  pub inputs_length : (k m : ℕ) → length (inputs_bytes g k m) ≡ 2 * m
  unfolding inputs_bytes
  inputs_length k zero = refl
  inputs_length k (suc m) =
      let l = length-append (inputs_bytes g k m) (bytes16 (g.input k m)) in
      omega (arith, inputs_length k m, two_length (g.input k m))

  pub row_length : (k : ℕ) → length (row_bytes g k) ≡ 5 + 2 * g.count k
  unfolding row_bytes
  row_length k =
      let l = length-append (bytes32 (g.label k)) (g.count k ∷ inputs_bytes g k (g.count k)) in
      omega (arith, four_length (g.label k), inputs_length k (g.count k))

  pub rows_next : (n : ℕ) → length (rows_bytes g (suc n)) ≡ length (rows_bytes g n) + (5 + 2 * g.count n)
  unfolding rows_bytes
  rows_next n = omega (arith, length-append (rows_bytes g n) (row_bytes g n), row_length n)

  -- ---- read where they stand

  inputs_read : {b : List ℕ} {at : ℕ} (k m : ℕ) → Stands b at (inputs_bytes g k m) → (j : ℕ) → j < m → be16 b (at + 2 * j) ≡ g.input k j
  unfolding inputs_bytes
  inputs_read k zero s j h = absurd (omega arith)
  inputs_read {b} {at} k (suc m) s j h =
      let front = inputs_bytes g k m in
      let last = bytes16 (g.input k m) in
      let here : at + length front ≡ at + 2 * m = rw inputs_length in
      let read = two_read (g.input k m) (stands_right front last here s) in
      below_more (λ j. be16 b (at + 2 * j) ≡ g.input k j) m (inputs_read k m (stands_left front last s)) read j (omega arith)

  pub row_read : {b : List ℕ} {at : ℕ} (k : ℕ) → Stands b at (row_bytes g k) → ReadsRow b at g k
  unfolding row_bytes
  row_read {b} {at} k s =
      let label = bytes32 (g.label k) in
      let inputs = inputs_bytes g k (g.count k) in
      let l = four_length (g.label k) in
      let rest : Stands b (at + 4) (g.count k ∷ inputs) = stands_right label (g.count k ∷ inputs) (omega arith) s in
      record {
        label = four_read (g.label k) (stands_left label (g.count k ∷ inputs) s);
        count = stands_first rest;
        input = inputs_read k (g.count k) (stands_right (g.count k ∷ []) inputs (omega arith) rest);
      }

  pub rows_stand : {b : List ℕ} {at : ℕ} (n : ℕ) → Stands b at (rows_bytes g n) → (k : ℕ) → k < n → Stands b (at + length (rows_bytes g k)) (row_bytes g k)
  unfolding rows_bytes
  rows_stand zero s k h = absurd (omega arith)
  rows_stand {b} {at} (suc n) s k h =
      let front = rows_bytes g n in
      let last = row_bytes g n in
      let stands = stands_right front last refl s in
      below_more (λ k. Stands b (at + length (rows_bytes g k)) (row_bytes g k)) n (rows_stand n (stands_left front last s)) stands k (omega arith)

  -- ---- where they start, in bytes whose rows have as many inputs

  pub rows_start : (b : List ℕ) (n : ℕ) → ((k : ℕ) → k < n → start b k ≡ 7 + length (rows_bytes g k) → count_at b (start b k) ≡ g.count k) → start b n ≡ 7 + length (rows_bytes g n)
  unfolding rows_bytes start
  rows_start b zero counts = refl
  rows_start b (suc n) counts =
      let here = rows_start b n (λ k h. counts k (omega arith)) in
      let count = counts n (omega arith) here in
      omega (arith, rows_next n)
