-- Where an input of a sheet leads: the two cases, and that an input that points to a row leads to a row of the view.
use Prim.Native.Nat.{ℕ, ◌+◌, ◌-◌, ◌≤◌, ◌<◌}
use native.Mathlib.Omega.{arith}
use native.Mathlib.Decide.{dec_lt}
use mathlib.Core.Path.{◌≡◌}
use mathlib.Core.Bool.{true}
use lib.Dec.{ltb}
use borrow.Author.Tests.{lt-ltb, le-ltb, ltb-true}
use Rattle.sheet.specs.Format.{store_numbers}
use Rattle.sheet.specs.Points.{points_to}
use Rattle.rows.specs.Joined.{leads_to}

module _ (stored x : ℕ) where
  pub leads_sheet : x < store_numbers → leads_to stored x ≡ stored + x
  unfolding leads_to
  leads_sheet h = simp (lt-ltb x store_numbers h)

  pub leads_store : store_numbers ≤ x → leads_to stored x ≡ x - store_numbers
  unfolding leads_to
  leads_store h = simp (le-ltb x store_numbers h)

  pub leads_row : (rows : ℕ) → points_to rows stored x ≡ true → leads_to stored x < stored + rows
  unfolding points_to
  leads_row rows e = go (dec_lt x store_numbers)
    where
      go : Dec (x < store_numbers) → leads_to stored x < stored + rows
      go (yes q) = let p : ltb x rows ≡ true = rw (lt-ltb x store_numbers q) at e in omega (arith, leads_sheet q, ltb-true x rows p)
      go (no q) =
          let l : store_numbers ≤ x = omega arith in
          let p : ltb (x - store_numbers) stored ≡ true = rw (le-ltb x store_numbers l) at e in
          omega (arith, leads_store l, ltb-true (x - store_numbers) stored p)
