-- Where there is no store, an input points to a row exactly when it is the number of a row; and then it does so beside every store.
use Prim.Native.Nat.{ℕ, ◌-◌, ◌≤◌, ◌<◌}
use native.Mathlib.Omega.{arith}
use native.Mathlib.Decide.{dec_lt}
use mathlib.Core.Path.{◌≡◌}
use mathlib.Core.List.{List}
use mathlib.Core.Bool.{true, false}
use borrow.Author.Tests.{lt-ltb, le-ltb}
use Rattle.sheet.specs.Format.{row_count_of, count_at, input_at, start, store_numbers}
use Rattle.sheet.specs.Points.{points_to, PointsNowhere, NamesStore}

pub points_row : (rows stored x : ℕ) → rows ≤ store_numbers → x < rows → points_to rows stored x ≡ true
unfolding points_to
points_row rows stored x few h = let l : x < store_numbers = omega arith in simp (lt-ltb x store_numbers l, lt-ltb x rows h)

-- an input of 32,768 or more points to no row where there is no store
pub points_store : (rows x : ℕ) → store_numbers ≤ x → points_to rows 0 x ≡ false
unfolding points_to
points_store rows x l = simp (le-ltb x store_numbers l, le-ltb (x - store_numbers) 0 (omega arith))

pub points_past : (rows x : ℕ) → rows ≤ x → points_to rows 0 x ≡ false
unfolding points_to
points_past rows x h = go (dec_lt x store_numbers)
  where
    go : Dec (x < store_numbers) → points_to rows 0 x ≡ false
    go (yes q) = simp (lt-ltb x store_numbers q, le-ltb x rows h)
    go (no q) = points_store rows x (omega arith)

module _ (b : List ℕ) (leads : PointsNowhere b 0 → ⊥) where
  pub input_within : (k j : ℕ) → k < row_count_of b → j < count_at b (start b k) → input_at b (start b k) j < row_count_of b
  input_within k j h l = go (dec_lt (input_at b (start b k) j) (row_count_of b))
    where
      go : Dec (input_at b (start b k) j < row_count_of b) → input_at b (start b k) j < row_count_of b
      go (yes q) = q
      go (no q) = absurd (leads (record { row = k; input = j; of_sheet = h; of_row = l; astray = points_past (row_count_of b) (input_at b (start b k) j) (omega arith) }))

  -- 19 does not apply where 6 does not
  pub leads_names : NamesStore b → ⊥
  leads_names x =
      leads (record { row = x.row; input = x.input; of_sheet = x.of_sheet; of_row = x.of_row; astray = points_store (row_count_of b) (input_at b (start b x.row) x.input) x.names })

  -- no input points nowhere, whatever the store
  pub leads_any : row_count_of b ≤ store_numbers → (stored : ℕ) → PointsNowhere b stored → ⊥
  leads_any few stored x =
      let t = points_row (row_count_of b) stored (input_at b (start b x.row) x.input) few (input_within x.row x.input x.of_sheet x.of_row) in
      let f = x.astray in
      let z : ◌≡◌ {A = ℕ} 0 1 = cc in
      omega arith
