-- Where rows start: each further on than the row before it, so that a row of the sheet lies within its bytes.
use Prim.Native.Nat.{ℕ, zero, suc, ◌+◌, ◌*◌, ◌≤◌, ◌<◌}
use native.Mathlib.Omega.{arith}
use native.Mathlib.Numerals.{add-one}
use native.Mathlib.Decide.{dec_lt}
use mathlib.Core.Path.{◌≡◌, refl}
use mathlib.Core.List.{List}
use Rattle.sheet.specs.Format.{count_at, row_end, start}

pub start_first : (b : List ℕ) → start b 0 ≡ 7
unfolding start
start_first b = refl

pub start_next : (b : List ℕ) (i : ℕ) → start b (i + 1) ≡ row_end b (start b i)
unfolding start
start_next b i = rw add-one

later : (b : List ℕ) (i n : ℕ) → i < n → row_end b (start b i) ≤ start b n
unfolding start
later b i zero h = absurd (omega arith)
later b i (suc n) h = go (dec_lt i n) (later b i n)
  where
    go : Dec (i < n) → (i < n → row_end b (start b i) ≤ start b n) → row_end b (start b i) ≤ start b (suc n)
    go (yes q) ih = let l = ih q in omega arith
    go (no q) ih = let e : i ≡ n = omega arith in rw e (omega arith)

-- a row ends where a later row starts, or before
pub row_inside : (b : List ℕ) (i n at : ℕ) → at ≡ start b i → i < n → at + 5 + 2 * count_at b at ≤ start b n
row_inside b i n at e h = rw e (later b i n h)
