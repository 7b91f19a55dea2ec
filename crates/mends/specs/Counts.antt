-- What is counted: rows that go, wires that do not, boxes with the tree of a lower box, and unused input words that are not zero.
use Rattle.std.specs.Prelude.{ℕ, zero, suc, ◌+◌, Bool, true, false, List, eqb, leb, ltb}
use Rattle.rules.specs.Pick.{pick}
use Rattle.wires.specs.Wires.{is_wire}
use Rattle.store.specs.Layout.{label_of, count_of, input_of}

-- how many of the first n numbers a test holds of
unfoldable pub tally : (ℕ → Bool) → ℕ → ℕ
tally t zero = 0
tally t (suc n) = tally t n + pick (t n) 1 0

-- the first n values added
unfoldable pub total : (ℕ → ℕ) → ℕ → ℕ
total f zero = 0
total f (suc n) = total f n + f n

-- c gives n to a row that goes
abbrev pub goes_at : (n : ℕ) → (ℕ → ℕ) → ℕ → Bool
goes_at n c u = leb n (c u)

-- row u is a wire
abbrev pub wire_of : (most : ℕ) → List ℕ → ℕ → Bool
wire_of most w u = is_wire (label_of most w u)

-- row u is a wire and does not go
abbrev pub wire_at : (n : ℕ) → (ℕ → ℕ) → (ℕ → Bool) → ℕ → Bool
wire_at n c wire u = pick (leb n (c u)) false (wire u)

-- b gives a box the lowest box with its tree, and no other row a lower one
abbrev pub merged_at : (ℕ → ℕ) → ℕ → Bool
merged_at b u = ltb (b u) u

-- input word j of row u is unused and not zero
abbrev pub unused_set : (most : ℕ) → List ℕ → (u j : ℕ) → Bool
unused_set most w u j = pick (leb (count_of most w u) j) (pick (eqb (input_of most w u j) 0) false true) false

-- how many such words row u has, if it stays
abbrev pub cleared_at : (most : ℕ) → List ℕ → (n : ℕ) → (ℕ → ℕ) → ℕ → ℕ
cleared_at most w n c u = pick (leb n (c u)) 0 (tally (unused_set most w u) most)
