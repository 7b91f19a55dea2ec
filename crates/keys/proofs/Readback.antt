-- The first rows of a graph, written as a sheet and read back: the head says what was written, each row is read where it starts, and rows
-- within a sheet's limits make a readable sheet whose inputs all lead to rows of it.
use Prim.Native.Nat.{ℕ, ◌+◌, ◌-◌, ◌≤◌, ◌<◌}
use native.Mathlib.Omega.{arith}
use mathlib.Core.Path.{◌≡◌, refl, sym, ◌∙◌}
use mathlib.Core.List.{[], ◌∷◌, ◌++◌}
use mathlib.Core.Bool.{false}
use lib.ListN.{length, length-append}
use Rattle.rules.specs.Lists.{widest}
use Rattle.trees.specs.Graph.{Graph}
use Rattle.trees.proofs.Matching.{SaysSame}
use Rattle.sheet.specs.Format.{length_field, version_of, row_count_of, start}
use Rattle.sheet.specs.Refusals.{Readable}
use Rattle.sheet.specs.Points.{points_to, PointsNowhere}
use Rattle.keys.specs.Bytes.{bytes16, bytes32, rows_bytes, sheet_bytes}
use Rattle.keys.specs.Sheets.{sheet_graph}
use Rattle.keys.proofs.Stands.{Stands, stands_first, stands_left, stands_right, stands_whole}
use Rattle.keys.proofs.Fields.{two_length, four_length, two_read, four_read}
use Rattle.sheet.proofs.Readable.{limit_one}
use Rattle.sheet.proofs.Within.{points_row}
use Rattle.keys.proofs.Rows.{ReadsRow, row_read, rows_stand, rows_start}

-- the first n rows of a graph are within a sheet's limits
pub record Writable (g : Graph) (n : ℕ) : Type 0 where
  pub rows : n ≤ 1024
  pub counts : (k : ℕ) → k < n → g.count k ≤ widest
  pub inputs : (k j : ℕ) → k < n → j < g.count k → g.input k j < n

module _ (g : Graph) (n : ℕ) where
  -- ---- the head

  pub written_length : length (sheet_bytes g n) ≡ 7 + length (rows_bytes g n)
  unfolding sheet_bytes
  written_length =
      let rows = rows_bytes g n in
      let field = 3 + length rows in
      omega (arith, length-append (bytes32 field) (1 ∷ (bytes16 n ++ rows)), four_length field, length-append (bytes16 n) rows, two_length n)

  whole : Stands (sheet_bytes g n) 0 (bytes32 (3 + length (rows_bytes g n)) ++ (1 ∷ (bytes16 n ++ rows_bytes g n)))
  unfolding sheet_bytes
  whole = stands_whole (sheet_bytes g n)

  past_field : Stands (sheet_bytes g n) 4 (1 ∷ (bytes16 n ++ rows_bytes g n))
  past_field = stands_right (bytes32 (3 + length (rows_bytes g n))) (1 ∷ (bytes16 n ++ rows_bytes g n)) (rw four_length) whole

  past_version : Stands (sheet_bytes g n) 5 (bytes16 n ++ rows_bytes g n)
  past_version = stands_right (1 ∷ []) (bytes16 n ++ rows_bytes g n) refl past_field

  past_head : Stands (sheet_bytes g n) 7 (rows_bytes g n)
  past_head = stands_right (bytes16 n) (rows_bytes g n) (rw two_length) past_version

  pub written_counted : length_field (sheet_bytes g n) ≡ length (sheet_bytes g n) - 4
  written_counted =
      let field = 3 + length (rows_bytes g n) in
      omega (arith, four_read field (stands_left (bytes32 field) (1 ∷ (bytes16 n ++ rows_bytes g n)) whole), written_length)

  pub written_version : version_of (sheet_bytes g n) ≡ 1
  written_version = stands_first past_field

  pub written_count : row_count_of (sheet_bytes g n) ≡ n
  written_count = two_read n (stands_left (bytes16 n) (rows_bytes g n) past_version)

  -- ---- the rows

  row_here : (k : ℕ) → k < n → ReadsRow (sheet_bytes g n) (7 + length (rows_bytes g k)) g k
  row_here k h = row_read g k (rows_stand g n past_head k h)

  pub written_start : (k : ℕ) → k ≤ n → start (sheet_bytes g n) k ≡ 7 + length (rows_bytes g k)
  written_start k h = rows_start g (sheet_bytes g n) k (λ i l e. rw e (row_here i (omega arith)).count)

  pub written_row : (k : ℕ) → k < n → ReadsRow (sheet_bytes g n) (start (sheet_bytes g n) k) g k
  written_row k h = rw (written_start k (omega arith)) (row_here k h)

  pub written_says : SaysSame g (sheet_graph (sheet_bytes g n)) n
  unfolding sheet_graph
  written_says =
      record {
        alike = λ u h. record { labels = sym (written_row u h).label; counts = sym (written_row u h).count };
        inputs = λ u h j l. sym ((written_row u h).input j l);
      }

module _ {g : Graph} {n : ℕ} (w : Writable g n) where
  pub written_readable : Readable (sheet_bytes g n)
  written_readable =
      let count = written_count g n in
      let length = written_length g n in
      record {
        long = omega arith;
        counted = written_counted g n;
        version = written_version g n;
        few = omega (arith, w.rows);
        within = λ i h. rw ((written_row g n i (omega arith)).count, written_version g n) (omega (arith, w.counts i (omega arith), limit_one));
        whole = rw count (written_start g n n (omega arith) ∙ sym length);
      }

  pub written_leads : PointsNowhere (sheet_bytes g n) 0 → ⊥
  written_leads p =
      let h : p.row < n = omega (arith, written_count g n, p.of_sheet) in
      let row = written_row g n p.row h in
      let l : p.input < g.count p.row = rw row.count at p.of_row in
      let away : points_to n 0 (g.input p.row p.input) ≡ false = rw (written_count g n, row.input p.input l) at p.astray in
      let here = points_row n 0 (g.input p.row p.input) (omega (arith, w.rows)) (w.inputs p.row p.input h l) in
      let z : ◌≡◌ {A = ℕ} 0 1 = cc in
      omega arith
