-- A sheet without store numbers is converted to itself, byte for byte, whatever the store.
use Prim.Native.Nat.{ℕ, zero, suc, ◌+◌, ◌≤◌, ◌<◌}
use native.Mathlib.Omega.{arith}
use mathlib.Core.Path.{◌≡◌, sym, ap, ◌∙◌}
use mathlib.Core.List.{List, [], ◌∷◌}
use lib.ListN.{length, get_or}
use Rattle.rules.specs.Writes.{over_front}
use Rattle.trees.specs.Paths.{row, reach}
use Rattle.trees.proofs.Matching.{SaysSame}
use Rattle.trees.proofs.Paths.{reach_here, reach_first}
use Rattle.sheet.specs.Format.{row_count_of}
use Rattle.sheet.specs.Points.{PointsNowhere}
use Rattle.sheet.specs.Refusals.{Readable}
use Rattle.store.specs.Layout.{in_use}
use Rattle.walks.specs.Key.{place_of, keyed}
use Rattle.walks.proofs.Keyed.{keyed_label, keyed_count, keyed_input}
use Rattle.keys.specs.Bytes.{sheet_bytes, EachByte}
use Rattle.keys.specs.Sheets.{sheet_graph}
use Rattle.keys.proofs.Rewritten.{rewritten}
use Rattle.keys.proofs.SameBytes.{bytes_same}
use Rattle.converts.specs.Rising.{Rising, rising_none, rising_past}
use Rattle.converts.specs.Result.{rising_inputs, converted}
use Rattle.fronting.specs.Together.{as_drawn}
use Rattle.converts.specs.Convert.{Appended, result, ConvertDone}
use Rattle.converts.proofs.Result.{order_length, order_sheet, place_sheet}
use Rattle.converts.proofs.OneOutcome.{appended_one}
use Rattle.duties.proofs.Alone.{sheet_closed, sheet_moved}

rising_nothing : {P : ℕ → Type 0} (n : ℕ) → ((x : ℕ) → x < n → P x → ⊥) → Rising P n []
rising_nothing zero f = rising_none
rising_nothing (suc n) f = rising_past (rising_nothing n (λ x h. f x (omega arith))) (f n (omega arith))

module _ {b : List ℕ} (r : Readable b) (leads : PointsNowhere b 0 → ⊥) (w : List ℕ) where
  -- from a row of the sheet a path leads to rows of the sheet only
  stays : (p : List ℕ) (i : ℕ) {n : ℕ} → i < row_count_of b → reach (as_drawn w b) (in_use w + i) p ≡ row n → in_use w ≤ n
  stays [] i {n} h e = let q : in_use w + i ≡ n = cc (reach_here (as_drawn w b) (in_use w + i)) in omega arith
  stays (j ∷ p) i h e =
      let m = sheet_moved r leads w in
      let s = reach_first (as_drawn w b) (in_use w + i) j p e in
      let l : j < (sheet_graph b).count i = omega (arith, s.0, (m.alike i h).counts) in
      stays p ((sheet_graph b).input i j) (m.stays i h j l) (rw (m.inputs i h j l) at s.1)

  pub itself_appended : Appended w b []
  itself_appended =
      record { rising = rising_nothing (in_use w) (λ n h f. omega (arith, stays f.leads.path f.row f.of_sheet f.leads.there)) }

  says : SaysSame (keyed (as_drawn w b) (rising_inputs (in_use w) (row_count_of b) [])) (sheet_graph b) (row_count_of b)
  says = record { alike = λ k h. record { labels = labels k h; counts = counts k h }; inputs = inputs }
    where
      here : (k : ℕ) → k < row_count_of b → get_or (rising_inputs (in_use w) (row_count_of b) []) k 0 ≡ in_use w + k
      here = order_sheet (in_use w) (row_count_of b) []

      labels : (k : ℕ) → k < row_count_of b → (keyed (as_drawn w b) (rising_inputs (in_use w) (row_count_of b) [])).label k ≡ (sheet_graph b).label k
      labels k h =
          keyed_label (as_drawn w b) (rising_inputs (in_use w) (row_count_of b) []) k ∙ ap (as_drawn w b).label (here k h) ∙ sym ((sheet_moved r leads w).alike k h).labels

      counts : (k : ℕ) → k < row_count_of b → (keyed (as_drawn w b) (rising_inputs (in_use w) (row_count_of b) [])).count k ≡ (sheet_graph b).count k
      counts k h =
          keyed_count (as_drawn w b) (rising_inputs (in_use w) (row_count_of b) []) k ∙ ap (as_drawn w b).count (here k h) ∙ sym ((sheet_moved r leads w).alike k h).counts

      inputs : (k : ℕ) → k < row_count_of b → (j : ℕ) → j < (keyed (as_drawn w b) (rising_inputs (in_use w) (row_count_of b) [])).count k → (keyed (as_drawn w b) (rising_inputs (in_use w) (row_count_of b) [])).input k j ≡ (sheet_graph b).input k j
      inputs k h j l =
          let q : j < (sheet_graph b).count k = rw (counts k h) at l in
          keyed_input (as_drawn w b) (rising_inputs (in_use w) (row_count_of b) []) k j
          ∙ ap (λ u. place_of (rising_inputs (in_use w) (row_count_of b) []) ((as_drawn w b).input u j)) (here k h)
          ∙ ap (place_of (rising_inputs (in_use w) (row_count_of b) [])) ((sheet_moved r leads w).inputs k h j q)
          ∙ place_sheet (row_count_of b) itself_appended.rising ((sheet_graph b).input k j) ((sheet_closed r leads).within k j h q)

  module _ (each : EachByte b) where
    itself_result : result w b [] ≡ b
    unfolding converted
    itself_result =
        let n : length (rising_inputs (in_use w) (row_count_of b) []) ≡ row_count_of b = omega (arith, order_length (in_use w) (row_count_of b) []) in
        ap (sheet_bytes (keyed (as_drawn w b) (rising_inputs (in_use w) (row_count_of b) []))) n ∙ bytes_same says ∙ rewritten r each

    -- no row is appended, and the result is the sheet
    pub converted_itself : {l : List ℕ} → Appended w b l → (l ≡ []) × (result w b l ≡ b)
    converted_itself p = let e = appended_one p itself_appended in (e, ap (result w b) e ∙ itself_result)

    -- so a done conversion puts the sheet at the front of the buffer
    pub itself_written : {out out' : List ℕ} {bytes : ℕ} → ConvertDone w b out out' bytes → (out' ≡ over_front b out) × (bytes ≡ length b)
    itself_written {out} d =
        let e = (converted_itself d.appended).1 in
        (d.written ∙ ap (λ k. over_front k out) e, d.counted ∙ ap length e)
