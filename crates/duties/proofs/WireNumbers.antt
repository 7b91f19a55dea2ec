-- A wire row of an accepted sheet gets the number of what it leads to.
use Prim.Native.Nat.{ℕ, ◌+◌, ◌-◌, ◌<◌}
use native.Mathlib.Omega.{arith}
use native.Mathlib.Decide.{ℕ_discrete}
use mathlib.Core.Path.{◌≡◌, sym, ap, ◌∙◌}
use mathlib.Core.Bool.{true}
use mathlib.Core.List.{List}
use Rattle.trees.specs.Agreement.{SameTree}
use Rattle.trees.proofs.Agreement.{same_trans}
use Rattle.sheet.specs.Format.{row_count_of, start, label_at, count_at, input_at}
use Rattle.sheet.proofs.Within.{input_within}
use Rattle.wires.specs.Wires.{is_wire, Wire}
use Rattle.store.specs.Layout.{in_use, room}
use Rattle.rows.specs.Joined.{source, leads_to, row_place, drawn}
use Rattle.rows.specs.View.{Viewed}
use Rattle.rows.proofs.Joined.{sheet_label, sheet_input}
use Rattle.rows.proofs.Leads.{leads_sheet}
use Rattle.rows.proofs.Naming.{drawn_named}
use Rattle.rows.proofs.View.{viewed_wire}
use Rattle.fronting.specs.Together.{together}
use Rattle.inserting.specs.Insert.{InsertDone}
use Rattle.duties.specs.Words.{answer}
use Rattle.duties.proofs.Firsts.{done_joint, spots, all_rows_lem, view_of}
use Rattle.duties.proofs.Done.{answer_used, answer_tree, answer_only}

module _ {w b answers w' answers' : List ℕ} {added : ℕ} (d : InsertDone w b answers w' answers' added) (i : ℕ) (h : i < row_count_of b) (wire : is_wire (label_at b (start b i)) ≡ true) where
  view : Viewed (source room w (in_use w) b) (spots w b)
  view = view_of (done_joint d)

  place : row_place (source room w (in_use w) b) (in_use w + i) ≡ start b i
  place = let z : in_use w + i - in_use w ≡ i = omega arith in rw z

  is_wire_lem : Wire (drawn (source room w (in_use w) b)) (in_use w + i)
  is_wire_lem =
      record {
        is = rw (sheet_label (source room w (in_use w) b) (in_use w + i) (omega arith) ∙ ap (label_at b) place) wire;
      }

  one : count_at b (start b i) ≡ 1
  one = go (ℕ_discrete (count_at b (start b i)) 1)
    where
      go : Dec (count_at b (start b i) ≡ 1) → count_at b (start b i) ≡ 1
      go (yes e) = e
      go (no n) = absurd (d.straight (record { row = i; of_sheet = h; wire = drawn_named (source room w (in_use w) b) i (omega (arith, d.readable.few)) is_wire_lem; counts = n }))

  low : input_at b (start b i) 0 < row_count_of b
  low = input_within b d.leads i 0 h (omega (arith, one))

  leads : (drawn (source room w (in_use w) b)).input (in_use w + i) 0 ≡ in_use w + input_at b (start b i) 0
  leads =
      sheet_input (source room w (in_use w) b) (in_use w + i) (omega arith) 0
      ∙ ap (λ at. leads_to (in_use w) (input_at b at 0)) place
      ∙ leads_sheet (in_use w) (input_at b (start b i) 0) (omega (arith, low, d.readable.few))

  tree : SameTree (together w b) (in_use w + i) (together w b) (in_use w + input_at b (start b i) 0)
  tree = rw leads at (viewed_wire view (in_use w + i) (omega (arith, all_rows_lem w b)) is_wire_lem)

  pub wire_number : answer answers' i ≡ answer answers' (input_at b (start b i) 0)
  wire_number =
      sym (answer_only d i (answer answers' (input_at b (start b i) 0)) h (answer_used d (input_at b (start b i) 0) low) (same_trans tree (answer_tree d (input_at b (start b i) 0) low)))
