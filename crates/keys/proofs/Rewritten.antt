-- A sheet read as a graph and written again: every field stands where it was read, so a readable sheet is written as the same bytes; and its
-- graph is within a sheet's limits where all its inputs lead to rows of it.
use Prim.Native.Nat.{ℕ, zero, suc, ◌+◌, ◌*◌}
use native.Mathlib.Omega.{arith}
use mathlib.Core.Path.{◌≡◌, refl, sym, ◌∙◌}
use mathlib.Core.List.{List, ◌∷◌, ◌++◌}
use lib.ListN.{length}
use Rattle.sheet.specs.Format.{length_field, row_count_of, label_at, count_at, input_at, start}
use Rattle.sheet.specs.Refusals.{Readable}
use Rattle.sheet.specs.Points.{PointsNowhere}
use Rattle.keys.specs.Bytes.{bytes16, bytes32, inputs_bytes, row_bytes, rows_bytes, sheet_bytes, EachByte}
use Rattle.keys.specs.Sheets.{sheet_graph}
use Rattle.keys.proofs.Stands.{Stands, stands_none, stands_more, stands_join, stands_all}
use Rattle.keys.proofs.Fields.{two_length, four_length, two_stands, four_stands}
use Rattle.sheet.proofs.Readable.{readable_within_widest}
use Rattle.sheet.proofs.Within.{input_within}
use Rattle.keys.proofs.Rows.{inputs_length, rows_start}
use Rattle.keys.proofs.Readback.{Writable, written_length}

-- rows start where the rows before them, written, end
start_again : (b : List ℕ) (n : ℕ) → start b n ≡ 7 + length (rows_bytes (sheet_graph b) n)
unfolding sheet_graph
start_again b n = rows_start (sheet_graph b) b n (λ k h e. refl)

module _ (b : List ℕ) (each : EachByte b) where
  inputs_again : (k m : ℕ) → Stands b (start b k + 5) (inputs_bytes (sheet_graph b) k m)
  unfolding sheet_graph inputs_bytes
  inputs_again k zero = stands_none b (start b k + 5)
  inputs_again k (suc m) =
      let l = inputs_length (sheet_graph b) k m in
      let last = two_stands b each (start b k + 5 + 2 * m) in
      stands_join (inputs_bytes (sheet_graph b) k m) (bytes16 (input_at b (start b k) m)) (omega arith) (inputs_again k m) last

  pub row_again : (k : ℕ) → Stands b (start b k) (row_bytes (sheet_graph b) k)
  unfolding sheet_graph row_bytes
  row_again k =
      let at = start b k in
      let count = count_at b at in
      let inputs = inputs_bytes (sheet_graph b) k count in
      let e : at + 5 ≡ at + 4 + 1 = omega arith in
      let rest : Stands b (at + 4) (count ∷ inputs) = stands_more refl (rw e at (inputs_again k count)) in
      stands_join (bytes32 (label_at b at)) (count ∷ inputs) (rw four_length) (four_stands b each at) rest

  pub rows_again : (n : ℕ) → Stands b 7 (rows_bytes (sheet_graph b) n)
  unfolding rows_bytes
  rows_again zero = stands_none b 7
  rows_again (suc n) =
      stands_join (rows_bytes (sheet_graph b) n) (row_bytes (sheet_graph b) n) (sym (start_again b n)) (rows_again n) (row_again n)

pub rewritten : {b : List ℕ} → Readable b → EachByte b → sheet_bytes (sheet_graph b) (row_count_of b) ≡ b
unfolding sheet_bytes
rewritten {b} r each =
    let rows = rows_bytes (sheet_graph b) (row_count_of b) in
    let field : 3 + length rows ≡ length_field b = omega (arith, start_again b (row_count_of b), r.whole, r.counted) in
    let count = bytes16 (row_count_of b) in
    let body : Stands b 5 (count ++ rows) = stands_join count rows (rw two_length) (two_stands b each 5) (rows_again b each (row_count_of b)) in
    let all = stands_join (bytes32 (length_field b)) (1 ∷ (count ++ rows)) (rw four_length) (four_stands b each 0) (stands_more r.version body) in
    stands_all (rw field all) (written_length (sheet_graph b) (row_count_of b) ∙ sym (start_again b (row_count_of b)) ∙ r.whole)

pub readable_writable : {b : List ℕ} → Readable b → (PointsNowhere b 0 → ⊥) → Writable (sheet_graph b) (row_count_of b)
unfolding sheet_graph
readable_writable {b} r leads =
    record {
      rows = r.few;
      counts = readable_within_widest r;
      inputs = λ k j. input_within b leads k j;
    }
