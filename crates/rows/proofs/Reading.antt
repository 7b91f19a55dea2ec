-- Reading a row of a view: what each reader asks is there, and what it gives is the view's row.
use Prim.Native.Nat.{ℕ, ◌+◌, ◌-◌, ◌≤◌, ◌<◌}
use native.Mathlib.Omega.{arith}
use mathlib.Core.Path.{◌≡◌, refl, sym, ap, ◌∙◌}
use mathlib.Core.List.{List}
use lib.ListN.{length, get_or}
use Rattle.rules.specs.Lists.{in_room, widest}
use Rattle.sheet.specs.Format.{label_at, count_at, start}
use Rattle.store.specs.Layout.{count_of, input_of}
use Rattle.store.specs.Rows.{RowThere, row_of}
use Rattle.store.specs.declared.row.Row.{Row}
use Rattle.store.proofs.Room.{row_there}
use Rattle.wires.specs.Wires.{through, skipping}
use Rattle.wires.proofs.Following.{through_plain}
use Rattle.rows.specs.Joined.{Source, source, resolved_at, row_place, drawn, joined, end_of, row_in}
use Rattle.rows.specs.SheetRow.{SheetRowThere, sheet_row}
use Rattle.rows.specs.View.{Laid, Drawn, Viewed}
use Rattle.rows.proofs.Joined.{store_label, store_count, store_input, sheet_label, sheet_count, sheet_input}
use Rattle.rows.proofs.Rows.{room_shorter}
use Rattle.rows.proofs.View.{laid_stored, laid_plain, viewed_end}

-- the parts of a sheet row
pub sheet_made : (b : List ℕ) (stored at label count : ℕ) (inputs : List ℕ) → label ≡ label_at b at → count ≡ count_at b at → inputs ≡ in_room widest (resolved_at b stored at) count → record { label = label; count = count; inputs = inputs } ≡ sheet_row b stored at
unfolding sheet_row
sheet_made b stored at label count inputs l c i = rw (l, i, c)

-- ---- rows as they are drawn: the source by its parts, as the code has them

module _ {most stored rows : ℕ} {w b : List ℕ} (v : Laid (source most w stored b) rows) where
  -- whatever row of the sheet a place is that of, it is there
  pub place_there : (i at : ℕ) → i < rows → at ≡ start b i → SheetRowThere b stored at
  place_there i at l e = rw e (record { rows = laid_stored v; few = v.within i l; ends = v.ends i l })

module _ {most stored rows : ℕ} {w b : List ℕ} (v : Laid (source most w stored b) rows) (u : ℕ) where
  module _ (h : u < stored) where
    pub laid_there : RowThere most w u
    laid_there = row_there most w stored u v.limit h v.room

    -- its unused input words are zero, so that all of them are the used ones
    pub laid_read : (row : Row) → row ≡ row_of most w u → row ≡ row_in (drawn (source most w stored b)) u
    unfolding row_of row_in
    laid_read row e =
        let s = source most w stored b in
        let q = v.shaped u h in
        let i = room_shorter widest (input_of most w u) ((drawn s).input u) most (count_of most w u)
        q.few v.limit (λ j l. sym (store_input s u h j)) q.unused in
        rw (e, store_label s u h, store_count s u h, i)

  pub place_read : (at : ℕ) → stored ≤ u → u < stored + rows → at ≡ start b (u - stored) → (row : Row) → row ≡ sheet_row b stored at → row ≡ row_in (drawn (source most w stored b)) u
  unfolding sheet_row row_in
  place_read at h l e row r =
      let s = source most w stored b in
      let n = count_at b (row_place s u) in
      let i = room_shorter widest (resolved_at b stored (row_place s u)) ((drawn s).input u) n n
      (omega arith) (v.within (u - stored) (omega arith)) (λ j k. sym (sheet_input s u h j)) (λ j k m. absurd (omega arith)) in
      rw (r, e, sheet_label s u h, sheet_count s u h, i)

module _ {most stored : ℕ} {w b table : List ℕ} (v : Drawn (source most w stored b) table) where
  pub drawn_sheet_there : (i at : ℕ) → i < length table → at ≡ get_or table i 0 → SheetRowThere b stored at
  drawn_sheet_there i at l e = place_there v.laid i at l (e ∙ v.placed i l)

module _ {most stored : ℕ} {w b table : List ℕ} (v : Drawn (source most w stored b) table) (u : ℕ) where
  pub drawn_store_there : u < stored → RowThere most w u
  drawn_store_there h = laid_there v.laid u h

  pub drawn_store_read : u < stored → (row : Row) → row ≡ row_of most w u → row ≡ row_in (drawn (source most w stored b)) u
  drawn_store_read h = laid_read v.laid u h

  pub drawn_sheet_read : (at : ℕ) → stored ≤ u → u < stored + length table → at ≡ get_or table (u - stored) 0 → (row : Row) → row ≡ sheet_row b stored at → row ≡ row_in (drawn (source most w stored b)) u
  drawn_sheet_read at h l e = place_read v.laid u at h l (e ∙ v.placed (u - stored) (omega arith))

-- ---- rows as trees are read

-- a row of the view is the drawn row where its wires lead to
joined_row : (s : Source) (u : ℕ) → row_in (joined s) u ≡ row_in (drawn s) (through (drawn s) u)
unfolding joined skipping row_in
joined_row s u = refl

-- the entry of sheet row i is the place of the sheet row where its wires lead to
module _ {most stored : ℕ} {w b table : List ℕ} (v : Viewed (source most w stored b) table) (i at : ℕ) (l : i < length table) (e : at ≡ get_or table i 0) where
  abbrev end : ℕ
  end = end_of (source most w stored b) i

  placed : at ≡ start b (end - stored)
  placed = e ∙ v.placed i l

  within : end < stored + length table
  within = viewed_end v (stored + i) (omega arith)

  pub sheet_there : SheetRowThere b stored at
  sheet_there = place_there v.laid (end - stored) at (omega (arith, within, v.own i l)) placed

  end_read : (row : Row) → row ≡ sheet_row b stored at → row ≡ row_in (drawn (source most w stored b)) end
  end_read = place_read v.laid end at (v.own i l) within placed

module _ {most stored : ℕ} {w b table : List ℕ} (v : Viewed (source most w stored b) table) (u : ℕ) where
  module _ (h : u < stored) where
    pub store_there : RowThere most w u
    store_there = laid_there v.laid u h

    pub store_read : (row : Row) → row ≡ row_of most w u → row ≡ row_in (joined (source most w stored b)) u
    store_read row e =
        let q = source most w stored b in
        laid_read v.laid u h row e ∙ sym (joined_row q u ∙ ap (row_in (drawn q)) (through_plain (drawn q) u ((laid_plain v.laid).plain u h)))

  pub sheet_read : (at : ℕ) → stored ≤ u → u < stored + length table → at ≡ get_or table (u - stored) 0 → (row : Row) → row ≡ sheet_row b stored at → row ≡ row_in (joined (source most w stored b)) u
  sheet_read at h l e row r =
      let z : stored + (u - stored) ≡ u = omega arith in
      end_read v (u - stored) at (omega arith) e row r ∙ rw z (sym (joined_row (source most w stored b) u))
