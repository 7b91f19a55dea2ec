-- How a view comes about: of a store alone, of a store and a sheet whose inputs all point to a row, and of such a sheet alone.
use Prim.Native.Nat.{ℕ, ◌+◌, ◌-◌, ◌≤◌, ◌<◌}
use native.Mathlib.Omega.{arith}
use mathlib.Core.Path.{◌≡◌, refl, sym, ap, ◌∙◌}
use mathlib.Core.List.{List, []}
use mathlib.Core.Bool.{Bool, true, false}
use lib.ListN.{length, get_or}
use Rattle.rules.specs.Lists.{firsts, widest}
use Rattle.rules.proofs.Lists.{firsts_length, firsts_at}
use Rattle.sheet.specs.Format.{row_count_of, count_at, input_at, start}
use Rattle.sheet.specs.Points.{points_to, PointsNowhere}
use Rattle.sheet.specs.Refusals.{Readable}
use Rattle.sheet.proofs.Readable.{readable_within_widest}
use Rattle.sheet.proofs.Starts.{row_inside}
use Rattle.sheet.proofs.Within.{leads_any}
use Rattle.store.specs.Layout.{in_use, capacity_of}
use Rattle.store.specs.Sound.{RowShaped, Shaped}
use Rattle.wires.specs.Wires.{Wire, follow, through, WireLoop, Plain, WiresFit}
use Rattle.wires.proofs.Following.{follow_low, through_plain}
use Rattle.wires.proofs.Skipping.{plain_fits}
use Rattle.wires.proofs.WireLoops.{Astray, kept_closed, wires_loop}
use Rattle.rows.specs.Joined.{Source, source, drawn, end_of, spot}
use Rattle.rows.specs.View.{Laid, view_rows, Drawn, Viewed}
use Rattle.rows.specs.Named.{ShortWire, SheetWireLoop}
use Rattle.rows.proofs.View.{laid_stored, laid_alone, laid_closed, laid_plain}
use Rattle.rows.proofs.Own.{laid_own, plain_end}
use Rattle.rows.proofs.Naming.{laid_fits, laid_unlooped}

-- where no input points nowhere, each points to a row
pub none_astray : (b : List ℕ) (stored i j : ℕ) → (PointsNowhere b stored → ⊥) → i < row_count_of b → j < count_at b (start b i) → points_to (row_count_of b) stored (input_at b (start b i) j) ≡ true
none_astray b stored i j n h l = go (points_to (row_count_of b) stored (input_at b (start b i) j)) refl
  where
    go : (t : Bool) → points_to (row_count_of b) stored (input_at b (start b i) j) ≡ t → points_to (row_count_of b) stored (input_at b (start b i) j) ≡ true
    go true e = e
    go false e = absurd (n (record { row = i; input = j; of_sheet = h; of_row = l; astray = e }))

-- the rows of a readable sheet after so many shaped rows of a store
pub laid_rows : {most stored : ℕ} {w b : List ℕ} → most ≤ widest → stored ≤ capacity_of most (length w) → ((n : ℕ) → n < stored → RowShaped most w stored n) → Readable b → (PointsNowhere b stored → ⊥) → Laid (source most w stored b) (row_count_of b)
laid_rows {stored = stored} {b = b} h room shaped r none =
    record {
      limit = h;
      room = room;
      shaped = shaped;
      few = r.few;
      ends = λ i l. omega (arith, row_inside b i (row_count_of b) (start b i) refl l, r.whole);
      within = readable_within_widest r;
      points = λ i j l k. none_astray b stored i j none l k;
    }

-- a table of where each of them starts
pub drawn_rows : {most stored : ℕ} {w b : List ℕ} → Laid (source most w stored b) (row_count_of b) → Drawn (source most w stored b) (firsts (start b) (row_count_of b))
drawn_rows {b = b} v =
    let long = firsts_length (start b) (row_count_of b) in
    record { laid = rw long v; placed = λ i l. firsts_at (start b) (row_count_of b) i (omega (arith, long)) }

-- no row of the sheet is looked at, so its bytes may be any
pub view_store : {most : ℕ} {w b : List ℕ} → most ≤ widest → Shaped most w → Viewed (source most w (in_use w) b) []
view_store {most} {w} {b} h s =
    record {
      laid = laid;
      own = λ i l. absurd (omega arith);
      placed = λ i l. absurd (omega arith);
      wires = rw all (plain_fits (drawn (source most w (in_use w) b)) (laid_alone laid) (laid_plain laid));
      ended = λ u k x.
          let l : u < in_use w = omega arith in
          (laid_plain laid).plain u l (rw (through_plain (drawn (source most w (in_use w) b)) u ((laid_plain laid).plain u l)) at x);
    }
  where
    all : in_use w + length {A = ℕ} [] ≡ in_use w
    all = omega arith

    laid : Laid (source most w (in_use w) b) 0
    laid =
        record {
          limit = h;
          room = s.fits;
          shaped = s.rows;
          few = omega arith;
          ends = λ i l. absurd (omega arith);
          within = λ i l. absurd (omega arith);
          points = λ i j l. absurd (omega arith);
        }

-- where each wire has one input and no wires are a loop, no wires lead to a wire for ever
pub laid_ended : {s : Source} {rows : ℕ} → Laid s rows → WiresFit (drawn s) (s.stored + rows) → ((u : ℕ) → u < s.stored + rows → WireLoop (drawn s) u → ⊥) → (u : ℕ) → u < s.stored + rows → Wire (drawn s) (through (drawn s) u) → ⊥
laid_ended {s} {rows} v fits none u h x = over (wires_loop (drawn s) (kept_closed (drawn s) (laid_closed v) fits u h) (omega (arith, v.few, laid_stored v)) x)
  where
    over : Astray (drawn s) u → ⊥
    over a = none (follow (drawn s) a.steps u) (follow_low (drawn s) (laid_closed v) fits a.steps u h) a.loop

-- a table of where each row of the sheet is read
pub view_table : {s : Source} {table : List ℕ} → Laid s (length table) → ((i : ℕ) → i < length table → s.stored ≤ end_of s i) → ((i : ℕ) → i < length table → get_or table i 0 ≡ spot s i) → WiresFit (drawn s) (view_rows s table) → ((u : ℕ) → u < view_rows s table → WireLoop (drawn s) u → ⊥) → Viewed s table
view_table {s} {table} v own placed fits none =
    record {
      laid = v;
      own = own;
      placed = placed;
      wires = fits;
      ended = laid_ended v fits none;
    }

-- where no row is a wire a table of places is one
pub view_plain : {s : Source} {table : List ℕ} → Drawn s table → Plain (drawn s) (view_rows s table) → Viewed s table
view_plain {s} {table} d p =
    record {
      laid = d.laid;
      own = λ i l. omega (arith, plain_end s i (p.plain (s.stored + i) (omega arith)));
      placed = λ i l.
          let z : end_of s i - s.stored ≡ i = omega (arith, plain_end s i (p.plain (s.stored + i) (omega arith))) in
          d.placed i l ∙ sym (ap (start s.bytes) z);
      wires = plain_fits (drawn s) (laid_closed d.laid) p;
      ended = λ u h x. p.plain u h (rw (through_plain (drawn s) u (p.plain u h)) at x);
    }

pub view_rows_lem : {most stored : ℕ} {w b : List ℕ} → Laid (source most w stored b) (row_count_of b) → ((i : ℕ) → i < row_count_of b → stored ≤ end_of (source most w stored b) i) → WiresFit (drawn (source most w stored b)) (stored + row_count_of b) → ((u : ℕ) → u < stored + row_count_of b → WireLoop (drawn (source most w stored b)) u → ⊥) → Viewed (source most w stored b) (firsts (spot (source most w stored b)) (row_count_of b))
view_rows_lem {most} {stored} {w} {b} v own fits none =
    view_table (rw long v)
    (λ i l. own i (omega (arith, long)))
    (λ i l. firsts_at (spot (source most w stored b)) (row_count_of b) i (omega (arith, long)))
    (rw long fits) (λ u l. none u (omega (arith, long)))
  where
    long : length (firsts (spot (source most w stored b)) (row_count_of b)) ≡ row_count_of b
    long = firsts_length (spot (source most w stored b)) (row_count_of b)

-- of a shaped store and a readable sheet with no short wire and no loop of wires
pub view_both : {most : ℕ} {w b : List ℕ} → most ≤ widest → Shaped most w → Readable b → (PointsNowhere b 0 → ⊥) → (ShortWire b → ⊥) → (SheetWireLoop b → ⊥) → Viewed (source most w (in_use w) b) (firsts (spot (source most w (in_use w) b)) (row_count_of b))
view_both {most} {w} {b} h s r none straight free =
    let v = laid_rows {stored = in_use w} h s.fits s.rows r (leads_any b none (omega (arith, r.few)) (in_use w)) in
    let f = laid_fits v straight in
    view_rows_lem v (laid_own v none f) f (laid_unlooped v straight free)
