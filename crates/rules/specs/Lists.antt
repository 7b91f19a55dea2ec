-- The first n values of a function as a list; and in an array with room for more, the rest zero.
use Rattle.std.specs.Prelude.{ℕ, zero, suc, List, [], ◌∷◌, ◌++◌, replicate}
use Rattle.rules.specs.Writes.{over_front}

unfoldable pub firsts : (ℕ → ℕ) → ℕ → List ℕ
firsts f zero = []
firsts f (suc n) = firsts f n ++ (f n ∷ [])

unfoldable pub in_room : (room : ℕ) → (ℕ → ℕ) → ℕ → List ℕ
in_room room f n = over_front (firsts f n) (replicate room 0)

-- the most inputs that any row has: a row by value has room for them
abbrev pub widest : ℕ
widest = 4
