-- Laws of a row read at a place: when it is read, when it is refused, and what each answer tells.
use Prim.Native.Nat.{ℕ, ◌+◌, ◌*◌, ◌≤◌, ◌<◌}
use native.Mathlib.Omega.{arith}
use mathlib.Core.Path.{◌≡◌, refl, ap}
use mathlib.Core.List.{List}
use mathlib.Core.Bool.{Bool, true, false}
use lib.ListN.{length}
use lib.Dec.{leb}
use borrow.Author.Tests.{le-leb, lt-leb, leb-true}
use Rattle.rules.specs.Pick.{pick}
use Rattle.sheet.specs.Format.{label_at, count_at, row_end}
use Rattle.sheet.specs.Read.{row_fits, row_at}
use Rattle.sheet.specs.Faults.{RowFits}
use Rattle.sheet.specs.declared.row.RowRead.{RowRead}
use Rattle.std.specs.Prelude.{Result, Ok, Err}

pick_false : (t : Bool) → pick t false false ≡ false
pick_false true = refl
pick_false false = refl

module _ (b : List ℕ) (most at : ℕ) where
  pub fits_yes : RowFits b most at → row_fits b most at ≡ true
  unfolding row_fits
  fits_yes f = simp (le-leb _ _ f.within, le-leb _ _ f.ends)

  pub fits_short : length b < row_end b at → row_fits b most at ≡ false
  unfolding row_fits
  fits_short h = rw (lt-leb _ _ h) (pick_false (leb (count_at b at) most))

  pub fits_crowded : most < count_at b at → row_fits b most at ≡ false
  unfolding row_fits
  fits_crowded h = simp (lt-leb _ _ h)

  pub yes_fits : row_fits b most at ≡ true → RowFits b most at
  unfolding row_fits
  yes_fits e = go (leb (count_at b at) most) refl e
    where
      go : (t : Bool) → leb (count_at b at) most ≡ t → pick t (leb (row_end b at) (length b)) false ≡ true → RowFits b most at
      go true p q = record { within = leb-true _ _ p; ends = leb-true _ _ q }
      go false p q = let z : ◌≡◌ {A = ℕ} 0 1 = cc in absurd (omega arith)

  -- ---- the answer

  no_row : row_fits b most at ≡ false → Err at ≡ row_at b most at
  unfolding row_at
  no_row e = simp e

  -- its five first bytes are not all there
  pub row_past : length b < at + 5 → Err at ≡ row_at b most at
  row_past h = no_row (fits_short (omega arith))

  module _ (count : ℕ) (e : count ≡ count_at b at) where
    pub row_crowded : most < count → Err at ≡ row_at b most at
    row_crowded h = no_row (fits_crowded (rw e at h))

    pub row_long : length b < at + 5 + 2 * count → Err at ≡ row_at b most at
    row_long h = no_row (fits_short (rw e at h))

    pub row_read : (label : ℕ) → label ≡ label_at b at → count ≤ most → at + 5 + 2 * count ≤ length b → Ok (record { label = label; count = count; next = at + 5 + 2 * count }) ≡ row_at b most at
    unfolding row_at
    row_read label l w n =
        let f : row_fits b most at ≡ true = fits_yes (record { within = rw e at w; ends = rw e at n }) in
        rw (f, l, e)

  -- what the answer tells of the row, and where the next one starts

  abbrev there : RowRead
  there = record { label = label_at b at; count = count_at b at; next = row_end b at }

  abbrev answer : Bool → Result RowRead ℕ
  answer t = pick t (Ok there) (Err at)

  pub read_fits : (row : RowRead) → Ok row ≡ row_at b most at → row_fits b most at ≡ true
  unfolding row_at
  read_fits row e = go (row_fits b most at) refl e
    where
      go : (t : Bool) → row_fits b most at ≡ t → Ok row ≡ answer t → row_fits b most at ≡ true
      go true p q = p
      go false p q = cc

  pub read_next : (row : RowRead) → Ok row ≡ row_at b most at → row.next ≡ row_end b at
  unfolding row_at
  read_next row e =
      let t = read_fits row e in
      let q : Ok row ≡ Ok there = rw t at e in
      let r : row ≡ there = cc in
      ap (λ r. r.next) r

  pub refused_fits : (place : ℕ) → Err place ≡ row_at b most at → row_fits b most at ≡ false
  unfolding row_at
  refused_fits place e = go (row_fits b most at) refl e
    where
      go : (t : Bool) → row_fits b most at ≡ t → Err place ≡ answer t → row_fits b most at ≡ false
      go true p q = cc
      go false p q = p
