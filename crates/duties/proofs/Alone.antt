-- A sheet without store numbers: beside every store its rows have the trees that they have alone.
use Prim.Native.Nat.{ℕ, ◌+◌, ◌<◌}
use native.Mathlib.Omega.{arith}
use native.Mathlib.Decide.{ℕ_discrete}
use mathlib.Core.Path.{◌≡◌, sym, ap, ◌∙◌}
use mathlib.Core.List.{List}
use Rattle.trees.specs.Graph.{Closed}
use Rattle.trees.specs.Agreement.{SameTree}
use Rattle.trees.proofs.Matching.{Renumbered, renumbered_same}
use Rattle.sheet.specs.Format.{row_count_of, count_at, input_at, start, store_numbers}
use Rattle.sheet.specs.Points.{PointsNowhere}
use Rattle.sheet.specs.Refusals.{Readable}
use Rattle.store.specs.Layout.{in_use, room}
use Rattle.wires.specs.Wires.{Wire, WiresFit}
use Rattle.rows.specs.Joined.{source, leads_to, joined}
use Rattle.rows.specs.Named.{ShortWire}
use Rattle.rows.proofs.Leads.{leads_sheet}
use Rattle.rows.proofs.Naming.{named_label, named_input, drawn_label, drawn_count, drawn_input}
use Rattle.keys.specs.Sheets.{sheet_graph}
use Rattle.sheet.proofs.Within.{input_within}
use Rattle.fronting.specs.Together.{together, as_drawn}
use Rattle.duties.specs.Words.{sheet_trees}
use Rattle.wires.proofs.SameSkipped.{same_skipped}

module _ {b : List ℕ} (r : Readable b) (leads : PointsNowhere b 0 → ⊥) where
  -- each input is below 32,768
  pub input_low : (i j : ℕ) → i < row_count_of b → j < count_at b (start b i) → input_at b (start b i) j < store_numbers
  input_low i j h l = omega (arith, input_within b leads i j h l, r.few)

  pub sheet_closed : Closed (sheet_graph b) (row_count_of b)
  unfolding sheet_graph
  sheet_closed = record { within = λ u j h l. input_within b leads u j h l }

  -- beside store w its rows stand behind the store's
  pub sheet_moved : (w : List ℕ) → Renumbered (sheet_graph b) (λ u. u < row_count_of b) (as_drawn w b) (λ u. in_use w + u)
  unfolding sheet_graph
  sheet_moved w =
      record {
        alike = λ u h.
            let l : u < store_numbers = omega (arith, r.few) in
            record {
              labels = sym (drawn_label (source room w (in_use w) b) u l ∙ named_label b u l);
              counts = sym (drawn_count (source room w (in_use w) b) u l);
            };
        inputs = λ u h j l.
            drawn_input (source room w (in_use w) b) u (omega (arith, r.few)) j
            ∙ ap (leads_to (in_use w)) (named_input b u j)
            ∙ leads_sheet (in_use w) (input_at b (start b u) j) (input_low u j h l);
        stays = λ u h j l. input_within b leads u j h l;
      }

  module _ (straight : ShortWire b → ⊥) where
    pub sheet_fits : WiresFit (sheet_graph b) (row_count_of b)
    unfolding sheet_graph
    sheet_fits = record { one = λ u h x. go u h x (ℕ_discrete (count_at b (start b u)) 1) }
      where
        go : (u : ℕ) → u < row_count_of b → Wire (sheet_graph b) u → Dec (count_at b (start b u) ≡ 1) → count_at b (start b u) ≡ 1
        go u h x (yes e) = e
        go u h x (no e) =
            let l : u < store_numbers = omega (arith, r.few) in
            absurd (straight (record { row = u; of_sheet = h; wire = record { is = rw (named_label b u l) x.is }; counts = e }))

    -- and with wires skipped they have the trees that they have alone
    pub sheet_tree : (w : List ℕ) (i : ℕ) → i < row_count_of b → SameTree (sheet_trees b) i (together w b) (in_use w + i)
    unfolding joined
    sheet_tree w i h = same_skipped sheet_closed sheet_fits i (in_use w + i) h (renumbered_same (sheet_moved w) i h)
