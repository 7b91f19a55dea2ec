-- The result's length and its bytes, from those of its rows.
use Prim.Native.Nat.{ℕ, ◌+◌, ◌-◌, ◌*◌, ◌≤◌, ◌<◌}
use native.Mathlib.Omega.{arith}
use mathlib.Core.Path.{◌≡◌, sym, ap, ap₂, ◌∙◌}
use mathlib.Core.List.{List, [], ◌∷◌, ◌++◌}
use lib.ListN.{length, get_or}
use Rattle.rules.specs.Writes.{over_front, Wrote}
use Rattle.store.specs.declared.row.Row.{Row}
use Rattle.rows.specs.Joined.{source, drawn, row_in}
use Rattle.walks.specs.Key.{keyed}
use Rattle.keys.specs.Bytes.{bytes16, bytes32, inputs_bytes, row_bytes, rows_bytes, sheet_bytes, longest_sheet}
use Rattle.keywriter.proofs.Rows.{inputs_more, row_inputs, row_wrote}
use Rattle.keywriter.proofs.Whole.{Measured, measured_all, written_few, need_least, sheet_rows, sheet_wrote}
use Rattle.converts.specs.Result.{converted}
use Rattle.appending.specs.Placed.{place_put, placed_inputs, InputsPlaced}
use Rattle.appending.specs.Asked.{Ready, rows_of, result_of}
use Rattle.appending.proofs.Placing.{order_length}
use Rattle.appending.proofs.Reading.{label_read, count_read, inputs_read, result_counts}

-- ---- the inputs of a row by value

module _ (stored : ℕ) (places inputs : List ℕ) (old : List ℕ) (at j : ℕ) (key : List ℕ) (to : ℕ) (s : Wrote old at (inputs_bytes (placed_inputs stored places inputs) 0 j) key to) where
  pub places_more : (x : ℕ) (key' : List ℕ) (to' : ℕ) → x ≡ place_put stored places (get_or inputs j 0) → Wrote key to (bytes16 x) key' to' → Wrote old at (inputs_bytes (placed_inputs stored places inputs) 0 (j + 1)) key' to'
  unfolding placed_inputs
  places_more x key' to' e t = inputs_more (placed_inputs stored places inputs) 0 old at j key to s x key' to' e t

pub place_small : (stored : ℕ) (places inputs : List ℕ) (count j x : ℕ) → InputsPlaced stored places inputs count → j < count → x ≡ place_put stored places (get_or inputs j 0) → x < 65536
place_small stored places inputs count j x s h e = omega (arith, s.small j h)

-- ---- a row

module _ (most : ℕ) (w b : List ℕ) (stored : ℕ) (table order places : List ℕ) (total : ℕ) (s : Ready (source most w stored b) table order places total) where
  module _ (k : ℕ) (h : k < total) (row : Row) (e : row ≡ row_in (drawn (source most w stored b)) (get_or order k 0)) (old : List ℕ) (at : ℕ) (key : List ℕ) (past : ℕ) (t : Wrote old at (bytes32 row.label ++ (row.count ∷ [])) key past) where
    pub row_inputs_room : at + length (row_bytes (rows_of (source most w stored b) order total) k) ≤ length old → past + 2 * row.count ≤ length key
    row_inputs_room r =
        row_inputs (rows_of (source most w stored b) order total) k old at row.label row.count key past (count_read most w b stored table order places total s k h row e) t r

    pub row_written : (key' : List ℕ) (to : ℕ) → Wrote key past (inputs_bytes (placed_inputs stored places row.inputs) 0 row.count) key' to → Wrote old at (row_bytes (rows_of (source most w stored b) order total) k) key' to
    row_written key' to q =
        row_wrote (rows_of (source most w stored b) order total) k old at row.label row.count key past (count_read most w b stored table order places total s k h row e) t
        (label_read most w b stored table order places total s k h row e) key' to
        (rw (inputs_read most w b stored table order places total s k h row e) at q)

  -- ---- the whole

  as_sheet : result_of (source most w stored b) table order total ≡ sheet_bytes (rows_of (source most w stored b) order total) total
  unfolding converted
  as_sheet =
      let g = drawn (source most w stored b) in
      ap₂ (λ l n. sheet_bytes (keyed g l) n) (sym s.arranged.in_order) (sym (ap length s.arranged.in_order) ∙ order_length s.arranged)

  module _ (need k : ℕ) (m : Measured (rows_of (source most w stored b) order total) need k) (l : k ≤ total) (q : total ≤ k) where
    pub length_all : need ≡ length (result_of (source most w stored b) table order total)
    length_all = measured_all (rows_of (source most w stored b) order total) need k m total l q ∙ sym (ap length as_sheet)

    pub length_few : need ≤ longest_sheet
    length_few = omega (arith, m.few, s.few)

  module _ (need : ℕ) (e : need ≡ length (result_of (source most w stored b) table order total)) where
    as_long : need ≡ length (sheet_bytes (rows_of (source most w stored b) order total) total)
    as_long = e ∙ ap length as_sheet

    pub result_least : 7 ≤ need
    result_least = need_least (rows_of (source most w stored b) order total) total need as_long

    pub result_few : need < 65536
    result_few =
        omega (arith, as_long, written_few (rows_of (source most w stored b) order total) total (result_counts most w b stored table order places total s) s.few)

    module _ (old key : List ℕ) (past : ℕ) (r : need ≤ length old) (t : Wrote old 0 (bytes32 (need - 4) ++ (1 ∷ bytes16 total)) key past) where
      pub result_rows : past + length (rows_bytes (rows_of (source most w stored b) order total) total) ≤ length key
      result_rows = sheet_rows (rows_of (source most w stored b) order total) total need as_long old key past r t

      pub result_wrote : (key' : List ℕ) (to : ℕ) → Wrote key past (rows_bytes (rows_of (source most w stored b) order total) total) key' to → key' ≡ over_front (result_of (source most w stored b) table order total) old
      result_wrote key' to q = rw as_sheet (sheet_wrote (rows_of (source most w stored b) order total) total need as_long old key past r t key' to q)
