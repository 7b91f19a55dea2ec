-- From a sheet that can be read beside a store, with no store number, no short wire and no loop of wires, to the view of both.
use Prim.Native.Nat.{ℕ, ◌+◌, ◌-◌, ◌≤◌, ◌<◌}
use native.Mathlib.Omega.{arith}
use native.Mathlib.Decide.{dec_lt, ℕ_discrete}
use mathlib.Core.Path.{◌≡◌, sym, ap, ◌∙◌}
use mathlib.Core.List.{List}
use lib.ListN.{length, get_or}
use Rattle.sheet.specs.Format.{row_count_of, count_at, start, store_numbers}
use Rattle.sheet.specs.Points.{PointsNowhere}
use Rattle.sheet.specs.Refusals.{Readable}
use Rattle.store.specs.Layout.{room}
use Rattle.wires.specs.Wires.{Wire, most_wires, through, WiresFit}
use Rattle.wires.proofs.Following.{through_plain}
use Rattle.rows.specs.Joined.{Source, source, leads_to, drawn, end_of, spot}
use Rattle.rows.specs.View.{Laid, Viewed}
use Rattle.rows.specs.Named.{named, ShortWire, SheetWireLoop}
use Rattle.rows.specs.Tabled.{Tabled}
use Rattle.rows.proofs.Leads.{leads_sheet}
use Rattle.rows.proofs.Own.{laid_own}
use Rattle.rows.proofs.Naming.{Names, Straight, names_row, names_follow, named_follow, laid_straight, laid_fits, laid_unlooped}
use Rattle.rows.proofs.Views.{none_astray, view_table}
use Rattle.rows.proofs.Tabling.{tabled_laid, tabled_drawn}
use Rattle.wiring.specs.Placed.{Placed}
use Rattle.wiring.specs.Told.{Ends}
use Rattle.wiring.specs.Spots.{Settled, Skipped, Spotted}

-- where the wires of a row lead, in the view and by the sheet's own numbers
module _ {s : Source} {rows : ℕ} (v : Laid s rows) (t : Straight s.bytes rows s.stored) (i : ℕ) (l : i < rows) where
  leads : leads_to s.stored (through (named s.bytes) i) ≡ end_of s i
  leads = named_follow v t most_wires i (names_row t i l) ∙ ap (through (drawn s)) (leads_sheet s.stored i (omega (arith, t.few)))

-- in a sheet without store numbers to a row of the sheet
module _ {b : List ℕ} (r : Readable b) (own : PointsNowhere b 0 → ⊥) (none : ShortWire b → ⊥) where
  alone : Straight b (row_count_of b) 0
  alone = record { few = omega (arith, r.few); points = λ i j l k. none_astray b 0 i j own l k; one = λ i h w. go i h w (ℕ_discrete (count_at b (start b i)) 1) }
    where
      go : (i : ℕ) → i < row_count_of b → Wire (named b) i → Dec (count_at b (start b i) ≡ 1) → count_at b (start b i) ≡ 1
      go i h w (yes e) = e
      go i h w (no e) = absurd (none (record { row = i; of_sheet = h; wire = w; counts = e }))

  pub ends_row : (i : ℕ) → i < row_count_of b → through (named b) i < row_count_of b
  ends_row i l = go (dec_lt (through (named b) i) store_numbers) (names_follow alone most_wires i (names_row alone i l))
    where
      go : Dec (through (named b) i < store_numbers) → Names (row_count_of b) 0 (through (named b) i) → through (named b) i < row_count_of b
      go (yes h) n = n.sheet h
      go (no h) n = absurd (omega (arith, n.store (omega arith)))

  -- the jumps of a test that ended stay where they lead
  pub ends_settled : (rows : ℕ) (jumps : List ℕ) → rows ≡ row_count_of b → Ends b rows jumps → Settled rows jumps
  ends_settled rows jumps e n = record { long = n.there.long; row = row; stays = stays }
    where
      row : (i : ℕ) → i < rows → get_or jumps i 0 < rows
      row i l = rw (n.ends i l, e) (ends_row i (omega arith))

      stays : (i : ℕ) → i < rows → get_or jumps (get_or jumps i 0) 0 ≡ get_or jumps i 0
      stays i l =
          let q = n.ends i l in
          n.ends (get_or jumps i 0) (row i l)
          ∙ ap (through (named b)) q
          ∙ through_plain (named b) (through (named b) i) (n.plain i l)
          ∙ sym q

-- ---- beside a store

pub tabled_placed : (w b : List ℕ) (stored : ℕ) (table : List ℕ) → Tabled w b stored table → Placed b table
tabled_placed w b stored table t =
    record {
      stored = stored;
      readable = t.front.readable;
      leads = t.front.leads;
      numbered = t.front.numbered;
      places = (tabled_drawn w b stored table t).placed;
    }

module _ (w b : List ℕ) (stored : ℕ) (table jumps new : List ℕ) (t : Tabled w b stored table) where
  laid : Laid (source room w stored b) (row_count_of b)
  laid = rw t.front.numbered at (tabled_laid w b stored table t)

  module _ (own : PointsNowhere b 0 → ⊥) (none : ShortWire b → ⊥) (free : SheetWireLoop b → ⊥) (n : Ends b (length table) jumps) (k : Skipped table jumps new) where
    long : length new ≡ row_count_of b
    long = k.same ∙ t.front.numbered

    -- each entry is where its row is read
    spots : (i : ℕ) → i < length new → get_or new i 0 ≡ spot (source room w stored b) i
    spots i h =
        let l : i < length table = omega (arith, k.same) in
        let c : i < row_count_of b = omega (arith, long) in
        let x = through (named b) i in
        let r = ends_row t.front.readable own none i c in
        let few : row_count_of b ≤ 1024 = t.front.readable.few in
        let q : stored + x ≡ end_of (source room w stored b) i = sym (leads_sheet stored x (omega arith)) ∙ leads laid (laid_straight laid none) i c in
        let z : x ≡ end_of (source room w stored b) i - stored = omega arith in
        k.spots i l
        ∙ ap (λ y. get_or table y 0) (n.ends i l)
        ∙ (tabled_drawn w b stored table t).placed x (omega (arith, t.front.numbered))
        ∙ ap (start b) z

    fits : WiresFit (drawn (source room w stored b)) (stored + row_count_of b)
    fits = laid_fits laid none

    pub skipped_viewed : Viewed (source room w stored b) new
    skipped_viewed =
        view_table (rw long laid) (λ i l. laid_own laid own fits i (omega (arith, long))) spots (rw long fits) (rw long (laid_unlooped laid none free))

    pub skipped_spotted : Spotted w b stored new
    skipped_spotted =
        record {
          front = rw k.same t.front;
          leads = own;
          straight = none;
          unlooped = free;
          view = skipped_viewed;
        }
