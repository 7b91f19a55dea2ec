-- The rows of the result read by value: what is asked of them is there, and what is read is what they say.
use Prim.Native.Nat.{ℕ, zero, suc, ◌≤◌, ◌<◌}
use native.Mathlib.Omega.{arith}
use mathlib.Core.Path.{◌≡◌, refl, sym, ap, ap₂, ◌∙◌}
use mathlib.Core.List.{List, ◌++◌}
use lib.ListN.{length, get_or, take}
use lib.Seq.{get_or-take}
use Rattle.rules.specs.Lists.{widest}
use Rattle.trees.specs.Graph.{Graph}
use Rattle.store.specs.Layout.{room}
use Rattle.store.specs.declared.row.Row.{Row}
use Rattle.rows.specs.Joined.{source, drawn, row_in}
use Rattle.rows.specs.View.{Laid, Drawn, view_rows}
use Rattle.rows.proofs.Rows.{in_label, in_count, in_input}
use Rattle.rows.proofs.View.{laid_counts, laid_alone, laid_closed}
use Rattle.rows.proofs.Tabling.{tabled_laid, tabled_drawn}
use Rattle.walks.specs.Key.{place_of}
use Rattle.walks.specs.Member.{Member}
use Rattle.walks.proofs.Members.{member_at}
use Rattle.walks.proofs.Places.{place_within}
use Rattle.walks.proofs.Reached.{Finished}
use Rattle.walks.proofs.Keyed.{keyed_label, keyed_count, keyed_input}
use Rattle.keys.specs.Bytes.{bytes16, inputs_bytes}
use Rattle.converts.proofs.Result.{order_finished}
use Rattle.appending.specs.Placed.{place_put, placed_inputs, InputsPlaced}
use Rattle.appending.specs.Asked.{Ready, rows_of}
use Rattle.appending.proofs.Placing.{order_length, order_below, place_found}

-- inputs that are alike are written alike
inputs_alike : (g h : Graph) (i k n : ℕ) → ((j : ℕ) → j < n → g.input i j ≡ h.input k j) → inputs_bytes g i n ≡ inputs_bytes h k n
unfolding inputs_bytes
inputs_alike g h i k zero e = refl
inputs_alike g h i k (suc n) e =
    ap₂ (λ l x. l ++ bytes16 x) (inputs_alike g h i k n (λ j l. e j (omega arith))) (e n (omega arith))

module _ (most : ℕ) (w b : List ℕ) (stored : ℕ) (table order places : List ℕ) (total : ℕ) (s : Ready (source most w stored b) table order places total) where
  laid : Laid (source most w stored b) (length table)
  laid = rw s.roomy (tabled_laid w b stored table s.tabled)

  -- with the register's room written out, as the code reads the rows
  pub own_drawn : Drawn (source room w stored b) table
  own_drawn = tabled_drawn w b stored table s.tabled

  pub ready_drawn : Drawn (source most w stored b) table
  ready_drawn = rw s.roomy own_drawn

  -- each input of a row of the result is one of its rows
  ready_finished : Finished (drawn (source most w stored b)) (take total order)
  ready_finished = rw s.arranged.in_order (order_finished (laid_closed laid) (laid_alone laid) s.arranged.rising)

  module _ (k : ℕ) (h : k < total) where
    pub row_below : (u : ℕ) → u ≡ get_or order k 0 → u < view_rows (source most w stored b) table
    row_below u e = rw e (order_below s.arranged k h)

    pub row_here : (u : ℕ) → u ≡ get_or order k 0 → (row : Row) → row ≡ row_in (drawn (source most w stored b)) u → row ≡ row_in (drawn (source most w stored b)) (get_or order k 0)
    row_here u e row r = r ∙ ap (row_in (drawn (source most w stored b))) e

    pub own_here : (u : ℕ) → u ≡ get_or order k 0 → (row : Row) → row ≡ row_in (drawn (source room w stored b)) u → row ≡ row_in (drawn (source most w stored b)) (get_or order k 0)
    own_here u e row r = row_here u e row (rw s.roomy r)

    here : get_or (take total order) k 0 ≡ get_or order k 0
    here = get_or-take total order k 0 h

    ours : Member (take total order) (get_or order k 0)
    ours = rw here at (member_at (take total order) k (omega (arith, order_length s.arranged)))

    few : (drawn (source most w stored b)).count (get_or order k 0) ≤ widest
    few = laid_counts laid (get_or order k 0) (order_below s.arranged k h)

    module _ (row : Row) (e : row ≡ row_in (drawn (source most w stored b)) (get_or order k 0)) where
      pub label_read : row.label ≡ (rows_of (source most w stored b) order total).label k
      label_read =
          let g = drawn (source most w stored b) in
          rw (e, in_label g (get_or order k 0)) (sym (keyed_label g (take total order) k ∙ ap g.label here))

      drawn_count : row.count ≡ (drawn (source most w stored b)).count (get_or order k 0)
      drawn_count = rw e (in_count (drawn (source most w stored b)) (get_or order k 0))

      pub count_read : row.count ≡ (rows_of (source most w stored b) order total).count k
      count_read =
          let g = drawn (source most w stored b) in
          drawn_count ∙ sym (keyed_count g (take total order) k ∙ ap g.count here)

      pub count_few : row.count ≤ widest
      count_few = rw drawn_count few

      pub count_byte : row.count < 256
      count_byte = omega (arith, count_few)

      -- an input is one of the rows, so that its place was noted
      module _ (j : ℕ) (l : j < row.count) where
        there : Member (take total order) ((drawn (source most w stored b)).input (get_or order k 0) j)
        there = ready_finished.inputs (get_or order k 0) j ours (rw drawn_count at l)

        input_place_lem : place_put stored places (get_or row.inputs j 0) ≡ place_of (take total order) ((drawn (source most w stored b)).input (get_or order k 0) j)
        input_place_lem =
            let g = drawn (source most w stored b) in
            let i : get_or row.inputs j 0 ≡ g.input (get_or order k 0) j = rw e (in_input g (get_or order k 0) few j (rw drawn_count at l)) in
            rw i (place_found s.arranged there)

      pub inputs_placed : InputsPlaced stored places row.inputs row.count
      inputs_placed =
          record {
            entries = s.arranged.entries;
            few = count_few;
            small = λ j l. omega (arith, input_place_lem j l, place_within (there j l), order_length s.arranged, s.few);
          }

      pub inputs_read : inputs_bytes (placed_inputs stored places row.inputs) 0 row.count ≡ inputs_bytes (rows_of (source most w stored b) order total) k row.count
      unfolding placed_inputs
      inputs_read =
          let g = drawn (source most w stored b) in
          inputs_alike (placed_inputs stored places row.inputs) (rows_of (source most w stored b) order total) 0 k row.count
          (λ j l. input_place_lem j l ∙ sym (keyed_input g (take total order) k j ∙ ap (λ u. place_of (take total order) (g.input u j)) here))

  -- no row of the result has more inputs than any row has
  pub result_counts : (k : ℕ) → k < total → (rows_of (source most w stored b) order total).count k ≤ widest
  result_counts k h =
      let row = row_in (drawn (source most w stored b)) (get_or order k 0) in
      rw (← (count_read k h row refl)) (count_few k h row refl)
