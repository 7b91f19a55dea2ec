-- Laws of counting first appearances: each number below the count is the number of exactly one of them.
use Prim.Native.Nat.{ℕ, zero, suc, ◌+◌, ◌≤◌, ◌<◌}
use native.Mathlib.Omega.{arith}
use native.Mathlib.Numerals.{add-one}
use native.Mathlib.Decide.{dec_lt, ℕ_discrete}
use mathlib.Core.Path.{◌≡◌, refl, sym, ap}
use borrow.Author.Tests.{eq-eqb, ne_eqb}
use Rattle.numbering.specs.Numbers.{trees_below, row_number}

module _ (c : ℕ → ℕ) where
  pub below_none : trees_below c 0 ≡ 0
  unfolding trees_below
  below_none = refl

  pub below_first : (u : ℕ) → c u ≡ u → trees_below c (u + 1) ≡ trees_below c u + 1
  unfolding trees_below
  below_first u e = rw add-one (simp (eq-eqb (c u) u e))

  pub below_known : (u : ℕ) → (c u ≡ u → ⊥) → trees_below c (u + 1) ≡ trees_below c u
  unfolding trees_below
  below_known u e = rw add-one (simp (ne_eqb (c u) u e) (omega arith))

  step : (u : ℕ) → (trees_below c u ≤ trees_below c (suc u)) × (trees_below c (suc u) ≤ trees_below c u + 1)
  step u = go (ℕ_discrete (c u) u)
    where
      go : Dec (c u ≡ u) → (trees_below c u ≤ trees_below c (suc u)) × (trees_below c (suc u) ≤ trees_below c u + 1)
      go (yes e) = let q : trees_below c (suc u) ≡ trees_below c u + 1 = rw (add-one) at (below_first u e) in omega arith
      go (no e) = let q : trees_below c (suc u) ≡ trees_below c u = rw (add-one) at (below_known u e) in omega arith

  pub below_mono : (u v : ℕ) → u ≤ v → trees_below c u ≤ trees_below c v
  below_mono u zero h = let e : u ≡ 0 = omega arith in rw e (omega arith)
  below_mono u (suc v) h = go (dec_lt v u) (below_mono u v)
    where
      go : Dec (v < u) → (u ≤ v → trees_below c u ≤ trees_below c v) → trees_below c u ≤ trees_below c (suc v)
      go (yes q) ih = let e : u ≡ suc v = omega arith in rw e (omega arith)
      go (no q) ih = let l = ih (omega arith) in let s = step v in omega (arith, s.0)

  pub below_most : (u : ℕ) → trees_below c u ≤ u
  unfolding trees_below
  below_most zero = omega arith
  below_most (suc u) = let l = below_most u in let s = step u in omega (arith, s.1)

  -- a first appearance below v has a number below the trees below v
  pub first_below : (u v : ℕ) → c u ≡ u → u < v → trees_below c u < trees_below c v
  first_below u v e h =
      let a = below_first u e in
      let b = below_mono (u + 1) v (omega arith) in
      omega arith

  -- two first appearances of one number are one
  pub number_once : (u v : ℕ) → c u ≡ u → c v ≡ v → trees_below c u ≡ trees_below c v → u ≡ v
  number_once u v e f q = go (dec_lt u v) (dec_lt v u)
    where
      go : Dec (u < v) → Dec (v < u) → u ≡ v
      go (yes h) x = let l = first_below u v e h in absurd (omega arith)
      go (no h) (yes k) = let l = first_below v u f k in absurd (omega arith)
      go (no h) (no k) = omega arith

  pub number_first : (u : ℕ) → c u ≡ u → row_number c u ≡ trees_below c u
  unfolding row_number
  number_first u e = ap (trees_below c) e

  pub number_class : (u v : ℕ) → c u ≡ c v → row_number c u ≡ row_number c v
  unfolding row_number
  number_class u v e = ap (trees_below c) e

  pub number_of_class : (u : ℕ) → c (c u) ≡ c u → row_number c u ≡ row_number c (c u)
  unfolding row_number
  number_of_class u e = ap (trees_below c) (sym e)

  -- where the first m rows are all first appearances, each has its own place for its number
  pub below_all : (m : ℕ) → ((u : ℕ) → u < m → c u ≡ u) → trees_below c m ≡ m
  unfolding trees_below
  below_all zero f = refl
  below_all (suc m) f = let l = below_all m (λ u h. f u (omega arith)) in rw (eq-eqb (c m) m (f m (omega arith)), l) (add-one m)

-- the first appearance that has a number
pub record FirstOf (c : ℕ → ℕ) (n k : ℕ) : Type 0 where
  pub row : ℕ
  pub within : row < n
  pub first : c row ≡ row
  pub number : trees_below c row ≡ k

pub number_taken : (c : ℕ → ℕ) (n k : ℕ) → k < trees_below c n → FirstOf c n k
number_taken c zero k h = absurd (omega (arith, below_none c))
number_taken c (suc n) k h = go (dec_lt k (trees_below c n)) (ℕ_discrete (c n) n) (number_taken c n k)
  where
    go : Dec (k < trees_below c n) → Dec (c n ≡ n) → (k < trees_below c n → FirstOf c n k) → FirstOf c (suc n) k
    go (yes q) x ih = let f = ih q in record { row = f.row; within = omega (arith, f.within); first = f.first; number = f.number }
    go (no q) (yes e) ih =
        let s : trees_below c (suc n) ≡ trees_below c n + 1 = rw add-one at (below_first c n e) in
        record { row = n; within = omega arith; first = e; number = omega arith }
    go (no q) (no e) ih = let s : trees_below c (suc n) ≡ trees_below c n = rw add-one at (below_known c n e) in absurd (omega arith)
