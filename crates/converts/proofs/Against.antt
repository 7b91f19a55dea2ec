-- An old sheet beside the store it was drawn against: what its converted sheet keeps, and that this can be read, leads to its own rows only
-- and has no fault in its wires.
use Prim.Native.Nat.{ℕ, ◌+◌, ◌-◌, ◌≤◌, ◌<◌}
use native.Mathlib.Omega.{arith}
use mathlib.Core.Path.{◌≡◌, refl, sym, ap, ◌∙◌}
use mathlib.Core.List.{List}
use lib.ListN.{length, get_or}
use Rattle.rules.specs.Lists.{widest}
use Rattle.trees.specs.Graph.{Closed}
use Rattle.trees.specs.Agreement.{SameTree}
use Rattle.trees.proofs.Agreement.{same_sym, same_trans, same_alike}
use Rattle.trees.proofs.Matching.{SaysSame, views_same}
use Rattle.trees.proofs.Paths.{leads_input}
use Rattle.sheet.specs.Format.{row_count_of, label_at, count_at, input_at, start, most_rows, store_numbers}
use Rattle.sheet.specs.Points.{PointsNowhere}
use Rattle.sheet.specs.Refusals.{Readable}
use Rattle.store.specs.Layout.{in_use, count_of, room, store_graph}
use Rattle.store.specs.Sound.{Shaped}
use Rattle.wires.specs.Wires.{Wire, through, WiresFit}
use Rattle.rows.specs.Joined.{source, leads_to}
use Rattle.rows.specs.Named.{named, ShortWire, SheetWireLoop}
use Rattle.rows.specs.View.{Laid}
use Rattle.rows.proofs.Joined.{store_label, store_count, store_input}
use Rattle.rows.proofs.Leads.{leads_sheet, leads_store}
use Rattle.rows.proofs.Naming.{Names, points_names, named_label, named_input, drawn_label, drawn_count, drawn_input, laid_fits, laid_unlooped, loop_through}
use Rattle.rows.proofs.View.{laid_counts, laid_alone, laid_closed}
use Rattle.rows.proofs.Views.{none_astray, laid_rows, laid_ended}
use Rattle.walks.specs.Key.{place_of, keyed}
use Rattle.walks.specs.Member.{Member}
use Rattle.walks.proofs.Keyed.{keyed_label, keyed_count, keyed_input}
use Rattle.keys.specs.Bytes.{longest_sheet}
use Rattle.keys.specs.Sheets.{sheet_graph}
use Rattle.sheet.proofs.Within.{input_within}
use Rattle.converts.specs.Result.{rising_inputs}
use Rattle.fronting.specs.Together.{as_drawn}
use Rattle.converts.specs.Convert.{Appended, result, ConvertDone}
use Rattle.converts.proofs.Rising.{rising_each, rising_member}
use Rattle.wires.proofs.SameSkipped.{wire_alike, through_same_tree}
use Rattle.converts.proofs.Result.{order_length, order_low, order_sheet, order_tree, place_sheet, place_stored, converted_tree, appended_tree, converted_readable, converted_leads, converted_rows, converted_row}
use Rattle.converts.proofs.Lengths.{rows_size, size_same, converted_longer, converted_most}

-- a shaped store, and a readable sheet whose inputs all point to a row of one of the two and whose wires have no fault
pub record Against (w b : List ℕ) : Type 0 where
  pub shaped : Shaped room w
  pub readable : Readable b
  pub leads : PointsNowhere b (in_use w) → ⊥
  pub straight : ShortWire b → ⊥
  pub unlooped : SheetWireLoop b → ⊥

pub done_against : {w b out out' : List ℕ} {bytes : ℕ} → ConvertDone w b out out' bytes → Against w b
done_against d = record { shaped = d.sound.shaped; readable = d.readable; leads = d.leads; straight = d.straight; unlooped = d.unlooped }

-- ---- store and sheet together, as they are drawn

module _ {w b : List ℕ} (a : Against w b) where
  pub against_laid : Laid (source room w (in_use w) b) (row_count_of b)
  against_laid = laid_rows (omega arith) a.shaped.fits a.shaped.rows a.readable a.leads

  pub against_closed : Closed (as_drawn w b) (in_use w + row_count_of b)
  against_closed = laid_closed against_laid

  pub against_alone : Closed (as_drawn w b) (in_use w)
  against_alone = laid_alone against_laid

  pub against_counts : (u : ℕ) → u < in_use w + row_count_of b → (as_drawn w b).count u ≤ widest
  against_counts = laid_counts against_laid

  pub against_fits : WiresFit (as_drawn w b) (in_use w + row_count_of b)
  against_fits = laid_fits against_laid a.straight

  -- no wires lead to a wire for ever
  pub against_ended : (u : ℕ) → u < in_use w + row_count_of b → Wire (as_drawn w b) (through (as_drawn w b) u) → ⊥
  against_ended = laid_ended against_laid against_fits (laid_unlooped against_laid a.straight a.unlooped)

  -- the store's rows have their trees in it
  pub against_store : (m : ℕ) → m < in_use w → SameTree (store_graph room w) m (as_drawn w b) m
  unfolding store_graph
  against_store m h = same_sym (views_same against_alone says m h)
    where
      says : SaysSame (as_drawn w b) (store_graph room w) (in_use w)
      says =
          record {
            alike = λ u l. record { labels = store_label (source room w (in_use w) b) u l; counts = store_count (source room w (in_use w) b) u l };
            inputs = λ u l j c. store_input (source room w (in_use w) b) u l j;
          }

-- ---- what the converted sheet keeps

-- c has row i of sheet b with its label and its input count; an input that is a row of the sheet is the same, and one that names row n of the
-- store is the place of n behind the sheet's rows, in the list of those appended
pub record KeepsRow (b c l : List ℕ) (i : ℕ) : Type 0 where
  pub label : label_at c (start c i) ≡ label_at b (start b i)
  pub count : count_at c (start c i) ≡ count_at b (start b i)
  pub own : (j : ℕ) → j < count_at b (start b i) → input_at b (start b i) j < store_numbers → input_at c (start c i) j ≡ input_at b (start b i) j
  pub listed : (j n : ℕ) → j < count_at b (start b i) → input_at b (start b i) j ≡ store_numbers + n → Member l n
  pub stored : (j n : ℕ) → j < count_at b (start b i) → input_at b (start b i) j ≡ store_numbers + n → input_at c (start c i) j ≡ row_count_of b + place_of l n

module _ {w b l : List ℕ} (a : Against w b) (p : Appended w b l) where
  pub result_rows : row_count_of (result w b l) ≡ row_count_of b + length l
  result_rows = converted_rows (as_drawn w b) (in_use w) (row_count_of b) l

  pub result_length_lem : length (result w b l) ≡ length b + rows_size (count_of room w) l
  result_length_lem =
      let long = converted_longer (as_drawn w b) (in_use w) (row_count_of b) l b
      (λ i h. drawn_count (source room w (in_use w) b) i (omega (arith, a.readable.few))) in
      let same = size_same (as_drawn w b).count (count_of room w) l
      (record { each = λ i h. store_count (source room w (in_use w) b) (get_or l i 0) ((rising_each p.rising).each i h).below }) in
      omega (arith, a.readable.whole)

  pub result_most : row_count_of b + length l ≤ most_rows → length (result w b l) ≤ longest_sheet
  result_most few = converted_most (as_drawn w b) (row_count_of b) p.rising few (against_counts a)

  module _ (i : ℕ) (h : i < row_count_of b) where
    low : i < store_numbers
    low = omega (arith, a.readable.few)

    here : get_or (rising_inputs (in_use w) (row_count_of b) l) i 0 ≡ in_use w + i
    here = order_sheet (in_use w) (row_count_of b) l i h

    count_here : (as_drawn w b).count (in_use w + i) ≡ count_at b (start b i)
    count_here = drawn_count (source room w (in_use w) b) i low

    input_here : (j : ℕ) → (as_drawn w b).input (in_use w + i) j ≡ leads_to (in_use w) (input_at b (start b i) j)
    input_here j = drawn_input (source room w (in_use w) b) i low j ∙ ap (leads_to (in_use w)) (named_input b i j)

    -- an input of the result is the place of what it leads to
    placed : (j : ℕ) → j < count_at b (start b i) → input_at (result w b l) (start (result w b l) i) j ≡ place_of (rising_inputs (in_use w) (row_count_of b) l) (leads_to (in_use w) (input_at b (start b i) j))
    placed j q =
        let g = as_drawn w b in
        let o = rising_inputs (in_use w) (row_count_of b) l in
        let n : j < (keyed g o).count i = rw (keyed_count g o i, here, count_here) q in
        (converted_row g (in_use w) (row_count_of b) l i (omega arith)).input j n
        ∙ keyed_input g o i j
        ∙ ap (λ u. place_of o (g.input u j)) here
        ∙ ap (place_of o) (input_here j)

    names : (j : ℕ) → j < count_at b (start b i) → Names (row_count_of b) (in_use w) (input_at b (start b i) j)
    names j q = points_names (row_count_of b) (in_use w) (input_at b (start b i) j) (none_astray b (in_use w) i j a.leads h q)

    member : (j n : ℕ) → j < count_at b (start b i) → input_at b (start b i) j ≡ store_numbers + n → Member l n
    member j n q e =
        let s : input_at b (start b i) j - store_numbers < in_use w = (names j q).store (omega arith) in
        let x : (as_drawn w b).input (in_use w + i) j ≡ n = omega (arith, input_here j, leads_store (in_use w) (input_at b (start b i) j) (omega arith)) in
        rising_member p.rising n (omega arith)
        (record { row = i; of_sheet = h; leads = rw x at (leads_input (as_drawn w b) (in_use w + i) j (rw count_here q)) })

    pub converted_place : KeepsRow b (result w b l) l i
    converted_place =
        record {
          label =
              (converted_row (as_drawn w b) (in_use w) (row_count_of b) l i (omega arith)).label
              ∙ keyed_label (as_drawn w b) (rising_inputs (in_use w) (row_count_of b) l) i
              ∙ ap (as_drawn w b).label here
              ∙ drawn_label (source room w (in_use w) b) i low
              ∙ named_label b i low;
          count =
              (converted_row (as_drawn w b) (in_use w) (row_count_of b) l i (omega arith)).count
              ∙ keyed_count (as_drawn w b) (rising_inputs (in_use w) (row_count_of b) l) i
              ∙ ap (as_drawn w b).count here
              ∙ count_here;
          own = λ j q s.
              placed j q
              ∙ ap (place_of (rising_inputs (in_use w) (row_count_of b) l)) (leads_sheet (in_use w) (input_at b (start b i) j) s)
              ∙ place_sheet (row_count_of b) p.rising (input_at b (start b i) j) ((names j q).sheet s);
          listed = member;
          stored = λ j n q e.
              let x : leads_to (in_use w) (input_at b (start b i) j) ≡ n = omega (arith, leads_store (in_use w) (input_at b (start b i) j) (omega arith)) in
              placed j q ∙ ap (place_of (rising_inputs (in_use w) (row_count_of b) l)) x ∙ place_stored (row_count_of b) p.rising n (member j n q e);
        }

  -- ---- trees

  pub result_tree : (i : ℕ) → i < row_count_of b → SameTree (as_drawn w b) (in_use w + i) (sheet_graph (result w b l)) i
  result_tree = converted_tree (against_closed a) (against_alone a) p.rising

  -- behind the sheet's rows stand those of the store that are appended
  pub stored_tree : (k : ℕ) → k < length l → SameTree (store_graph room w) (get_or l k 0) (sheet_graph (result w b l)) (row_count_of b + k)
  stored_tree k h =
      same_trans (against_store a (get_or l k 0) ((rising_each p.rising).each k h).below)
      (appended_tree (against_closed a) (against_alone a) p.rising k h)

  -- ---- the result as a sheet

  module _ (few : row_count_of b + length l ≤ most_rows) where
    pub result_readable : Readable (result w b l)
    result_readable = converted_readable (against_closed a) (against_alone a) p.rising few (against_counts a)

    -- no input names a row of a store, and each is a row of this sheet
    pub result_leads : PointsNowhere (result w b l) 0 → ⊥
    result_leads = converted_leads (against_closed a) (against_alone a) p.rising few (against_counts a)

    result_closed : Closed (sheet_graph (result w b l)) (row_count_of (result w b l))
    unfolding sheet_graph
    result_closed = record { within = λ u j h q. input_within (result w b l) result_leads u j h q }

    -- by its own numbers, too, its rows have these trees
    named_tree : (k : ℕ) → k < row_count_of (result w b l) → SameTree (as_drawn w b) (get_or (rising_inputs (in_use w) (row_count_of b) l) k 0) (named (result w b l)) k
    unfolding sheet_graph named
    named_tree k h =
        same_trans
        (order_tree (against_closed a) (against_alone a) p.rising k (omega (arith, order_length (in_use w) (row_count_of b) l, result_rows)))
        (views_same result_closed says k h)
      where
        says : SaysSame (sheet_graph (result w b l)) (named (result w b l)) (row_count_of (result w b l))
        says =
            record {
              alike = λ u q. record { labels = sym (named_label (result w b l) u (omega (arith, result_readable.few))); counts = refl };
              inputs = λ u q j m. sym (named_input (result w b l) u j);
            }

    row_low : (k : ℕ) → k < row_count_of (result w b l) → get_or (rising_inputs (in_use w) (row_count_of b) l) k 0 < in_use w + row_count_of b
    row_low k h = order_low (row_count_of b) p.rising k (omega (arith, order_length (in_use w) (row_count_of b) l, result_rows))

    -- each wire of it has one input
    pub result_straight : ShortWire (result w b l) → ⊥
    unfolding named
    result_straight x =
        let s = same_alike (named_tree x.row x.of_sheet) in
        let u = get_or (rising_inputs (in_use w) (row_count_of b) l) x.row 0 in
        x.counts (sym s.counts ∙ (against_fits a).one u (row_low x.row x.of_sheet) (wire_alike s x.wire))

    -- and no wires of it are a loop
    pub result_unlooped : SheetWireLoop (result w b l) → ⊥
    result_unlooped x =
        let u = get_or (rising_inputs (in_use w) (row_count_of b) l) x.row 0 in
        let h = row_low x.row x.of_sheet in
        let s = through_same_tree (against_closed a) (against_fits a) u x.row h (named_tree x.row x.of_sheet) in
        against_ended a u h (wire_alike (same_alike s) (loop_through x))
