-- From a sheet that can be read beside a store to the rows of both as they are drawn.
use Prim.Native.Nat.{ℕ, ◌≤◌, ◌<◌}
use native.Mathlib.Omega.{arith}
use mathlib.Core.Path.{◌≡◌, ap, ◌∙◌}
use mathlib.Core.List.{List}
use lib.ListN.{length, get_or, take}
use Rattle.rules.specs.Lists.{firsts}
use Rattle.rules.specs.Writes.{over_front}
use Rattle.rules.proofs.Lists.{firsts_length, firsts_at}
use Rattle.rules.proofs.Writes.{over_take}
use Rattle.sheet.specs.Format.{start}
use Rattle.sheet.proofs.Readable.{start_few}
use Rattle.store.specs.Layout.{room}
use Rattle.rows.specs.Joined.{source}
use Rattle.rows.specs.View.{Laid, Drawn, view_rows}
use Rattle.rows.specs.Tabled.{Fronted, Tabled}
use Rattle.rows.proofs.View.{laid_stored}
use Rattle.rows.proofs.Views.{laid_rows}

-- the front part of a table over which the places were written
module _ (w b : List ℕ) (stored rows : ℕ) (f : Fronted w b stored rows) where
  pub rows_few : rows ≤ 1024
  rows_few = let n = f.readable.few in omega (arith, f.numbered)

  pub rows_end : start b rows ≤ length b
  rows_end = rw f.numbered (omega (arith, f.readable.whole))

  pub rows_low : start b rows < 65536
  rows_low = rw f.numbered (start_few b f.readable)

  pub rows_fit : (table : List ℕ) → length table ≡ 1024 → rows ≤ length table
  rows_fit table l = let m = rows_few in omega arith

  pub rows_tabled : (old table part : List ℕ) → length old ≡ 1024 → table ≡ over_front (firsts (start b) rows) old → part ≡ take rows table → Tabled w b stored part
  rows_tabled old table part l e p =
      let n = firsts_length (start b) rows in
      let q : part ≡ firsts (start b) rows = p ∙ ap (take rows) e ∙ rw n at (over_take (firsts (start b) rows) old) in
      let m : length part ≡ rows = ap length q ∙ n in
      record { front = rw m f; places = rw m q }

module _ (w b : List ℕ) (stored : ℕ) (table : List ℕ) (t : Tabled w b stored table) where
  passed : Fronted w b stored (length table)
  passed = t.front

  pub tabled_laid : Laid (source room w stored b) (length table)
  tabled_laid =
      rw passed.numbered
      (laid_rows (omega arith) (rw passed.counted passed.shaped.fits) (λ n h. rw passed.counted (passed.shaped.rows n (rw passed.counted at h))) passed.readable passed.leads)

  -- the rows as they are drawn
  pub tabled_drawn : Drawn (source room w stored b) table
  tabled_drawn =
      record {
        laid = tabled_laid;
        placed = λ i l. ap (λ t. get_or t i 0) t.places ∙ firsts_at (start b) (length table) i l;
      }

  pub tabled_fits : (cls : List ℕ) → length cls ≡ 2048 → view_rows (source room w stored b) table ≤ length cls
  tabled_fits cls l = omega (arith, laid_stored tabled_laid, tabled_laid.few)
