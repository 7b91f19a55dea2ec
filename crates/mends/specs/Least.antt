-- Inner: the lowest of the first n numbers that a test holds of, or n where it holds of none.
use Rattle.std.specs.Prelude.{ℕ, zero, suc, Bool, false, ltb, eqb}
use Rattle.rules.specs.Pick.{pick}

unfoldable pub least : (ℕ → Bool) → ℕ → ℕ
least t zero = 0
least t (suc n) = pick (ltb (least t n) n) (least t n) (pick (t n) n (suc n))

-- the lowest row that is not out and has the class of row u; n where row u is out
abbrev pub keeps : (out : ℕ → Bool) → (c : ℕ → ℕ) → (u v : ℕ) → Bool
keeps out c u v = pick (out v) false (eqb (c v) (c u))

unfoldable pub chosen : (out : ℕ → Bool) → (c : ℕ → ℕ) → (n u : ℕ) → ℕ
chosen out c n u = pick (out u) n (least (keeps out c u) n)
