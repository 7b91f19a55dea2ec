-- How many bytes the converted sheet has: those of the sheet, and for each row appended 5 and 2 for each of its inputs.
use Prim.Native.Nat.{ℕ, zero, suc, ◌+◌, ◌*◌, ◌≤◌, ◌<◌}
use native.Mathlib.Omega.{arith}
use mathlib.Core.Path.{◌≡◌, refl, ap, ap₂}
use mathlib.Core.List.{List, [], ◌∷◌, ◌++◌}
use lib.ListN.{length, get_or}
use Rattle.rules.specs.Lists.{firsts, widest}
use Rattle.trees.specs.Graph.{Graph}
use Rattle.walks.specs.Key.{keyed}
use Rattle.walks.proofs.Members.{Each}
use Rattle.walks.proofs.Keyed.{keyed_count}
use Rattle.sheet.specs.Format.{count_at, start}
use Rattle.keys.specs.Bytes.{rows_bytes, longest_sheet}
use Rattle.keys.proofs.Rows.{rows_next}
use Rattle.converts.specs.Rising.{Rising}
use Rattle.converts.specs.Result.{behind, rising_inputs, converted}
use Rattle.converts.proofs.Result.{order_length, order_low, converted_length}

-- the bytes of a row with so many inputs
abbrev pub row_size : ℕ → ℕ
row_size count = 5 + 2 * count

-- the bytes of the rows of a list, by how many inputs each has
unfoldable pub rows_size : (ℕ → ℕ) → List ℕ → ℕ
rows_size count [] = 0
rows_size count (n ∷ l) = row_size (count n) + rows_size count l

module _ (count : ℕ → ℕ) where
  pub size_none : rows_size count [] ≡ 0
  unfolding rows_size
  size_none = refl

  pub size_join : (l m : List ℕ) → rows_size count (l ++ m) ≡ rows_size count l + rows_size count m
  unfolding rows_size
  size_join [] m = omega arith
  size_join (n ∷ l) m = omega (arith, size_join l m)

  -- one row more, at the end
  pub size_more : (l : List ℕ) (n : ℕ) → rows_size count (l ++ (n ∷ [])) ≡ rows_size count l + row_size (count n)
  unfolding rows_size
  size_more l n = omega (arith, size_join l (n ∷ []))

  -- no row has more inputs than the widest
  pub size_most : (l : List ℕ) → Each (λ n. count n ≤ widest) l → rows_size count l ≤ (5 + 2 * widest) * length l
  unfolding rows_size
  size_most [] e = omega arith
  size_most (n ∷ l) e =
      let h = e.each 0 (omega arith) in
      omega (arith, size_most l (record { each = λ i q. e.each (suc i) (omega arith) }))

pub size_same : (c d : ℕ → ℕ) (l : List ℕ) → Each (λ n. c n ≡ d n) l → rows_size c l ≡ rows_size d l
unfolding rows_size
size_same c d [] e = refl
size_same c d (n ∷ l) e =
    ap₂ (λ x y. row_size x + y) (e.each 0 (omega arith)) (size_same c d l (record { each = λ i q. e.each (suc i) (omega arith) }))

-- ---- rows written

-- the rows of a graph from row 0, and the same from row 1 behind the first
total : (ℕ → ℕ) → ℕ → ℕ
total c zero = 0
total c (suc n) = total c n + row_size (c n)

total_first : (c : ℕ → ℕ) (n : ℕ) → total c (suc n) ≡ row_size (c 0) + total (λ k. c (suc k)) n
unfolding total
total_first c zero = omega arith
total_first c (suc n) = omega (arith, total_first c n)

total_size : (c : ℕ → ℕ) (l : List ℕ) → total (λ k. c (get_or l k 0)) (length l) ≡ rows_size c l
unfolding total rows_size
total_size c [] = refl
total_size c (n ∷ l) = omega (arith, total_first (λ k. c (get_or (n ∷ l) k 0)) (length l), total_size c l)

keyed_total : (g : Graph) (l : List ℕ) (n : ℕ) → length (rows_bytes (keyed g l) n) ≡ total (λ k. g.count (get_or l k 0)) n
unfolding total rows_bytes
keyed_total g l zero = refl
keyed_total g l (suc n) = omega (arith, rows_next (keyed g l) n, keyed_count g l n, keyed_total g l n)

module _ (g : Graph) (stored rows : ℕ) (l : List ℕ) where
  pub converted_size : length (converted g stored rows l) ≡ 7 + rows_size g.count (rising_inputs stored rows l)
  converted_size =
      let e = keyed_total g (rising_inputs stored rows l) (rows + length l) in
      let n = ap (total (λ k. g.count (get_or (rising_inputs stored rows l) k 0))) (order_length stored rows l) in
      omega (arith, converted_length g stored rows l, total_size g.count (rising_inputs stored rows l))

  -- beside a sheet whose rows are those of g behind the stored ones
  module _ (b : List ℕ) (counts : (i : ℕ) → i < rows → g.count (stored + i) ≡ count_at b (start b i)) where
    sheet_size : (n : ℕ) → n ≤ rows → start b n ≡ 7 + rows_size g.count (firsts (behind stored) n)
    unfolding start firsts rows_size
    sheet_size zero h = refl
    sheet_size (suc n) h =
        omega (arith, sheet_size n (omega arith), counts n (omega arith), size_more g.count (firsts (behind stored) n) (stored + n))

    pub converted_longer : length (converted g stored rows l) ≡ start b rows + rows_size g.count l
    converted_longer =
        omega (arith, converted_size, sheet_size rows (omega arith), size_join g.count (firsts (behind stored) rows) l)

-- at most as long as a sheet can be
pub converted_most : {P : ℕ → Type 0} (g : Graph) {stored : ℕ} (rows : ℕ) {l : List ℕ} → Rising P stored l → rows + length l ≤ 1024 → ((u : ℕ) → u < stored + rows → g.count u ≤ widest) → length (converted g stored rows l) ≤ longest_sheet
converted_most g {stored} rows {l} r few counts =
    let m = size_most g.count (rising_inputs stored rows l) (record { each = λ i h. counts (get_or (rising_inputs stored rows l) i 0) (order_low rows r i h) }) in
    omega (arith, converted_size g stored rows l, order_length stored rows l)
