-- The breadth-first walk: rows are visited in the order in which they were met, and visiting a row meets its inputs from the left.
use Rattle.std.specs.Prelude.{ℕ, zero, suc, List, [], ◌∷◌, ◌++◌, Bool, true, false, length, get_or, eqb, ltb}
use Rattle.rules.specs.Pick.{pick}
use Rattle.trees.specs.Graph.{Graph}

-- the row has been met
unfoldable pub has : List ℕ → ℕ → Bool
has [] x = false
has (y ∷ l) x = pick (eqb y x) true (has l x)

-- a row met goes to the end, unless it is there
unfoldable pub meet : List ℕ → ℕ → List ℕ
meet l x = pick (has l x) l (l ++ (x ∷ []))

-- the first n inputs of row u, from the left
unfoldable pub meet_inputs : Graph → ℕ → List ℕ → ℕ → List ℕ
meet_inputs g u l zero = l
meet_inputs g u l (suc n) = meet (meet_inputs g u l n) (g.input u n)

-- the row at place k visited, if there is one
unfoldable pub visit : Graph → ℕ → List ℕ → List ℕ
visit g k l = pick (ltb k (length l)) (meet_inputs g (get_or l k 0) l (g.count (get_or l k 0))) l

-- the rows met from these, in the order in which they are met, after the first k places have been visited
unfoldable pub walk : Graph → List ℕ → ℕ → List ℕ
walk g from zero = from
walk g from (suc k) = visit g k (walk g from k)
