-- Cases of 01 computed from the definitions: agreement at depth 0 and not at 1, input counts that part two trees, and a hold of one turn or two.
use Prim.Native.Nat.{ℕ, ◌*◌, ◌<◌}
use native.Mathlib.Omega.{arith}
use mathlib.Core.Path.{refl}
use mathlib.Core.List.{List, [], ◌∷◌}
use lib.ListN.{get_or}
use Rattle.trees.specs.Graph.{Graph}
use Rattle.trees.specs.Agreement.{Alike, Agree, SameTree}
use Rattle.trees.proofs.Agreement.{agree_zero, agree_input, agree_alike, same_alike, same_sym, same_trans}
use Rattle.trees.proofs.Matching.{Matching, matching_same}

-- rows of at most one input each, by their labels, counts and inputs
abbrev pub short : List ℕ → List ℕ → List ℕ → Graph
short labels counts inputs = record { label = λ u. get_or labels u 0; count = λ u. get_or counts u 0; input = λ u j. get_or inputs u 0 }

abbrev pub channel : ℕ
channel = 65536

abbrev pub hold : ℕ
hold = 6 * 65536

-- ---- rows hold to 1, hold to 2, channel: rows 0 and 1 agree at depth 0, not at 1

abbrev pub three_rows : Graph
three_rows = short (hold ∷ hold ∷ channel ∷ []) (1 ∷ 1 ∷ 0 ∷ []) (1 ∷ 2 ∷ [])

pub three_agree : Agree 0 three_rows 0 three_rows 1
three_agree = agree_zero three_rows three_rows 0 1 (record { labels = refl; counts = refl })

pub three_part : Agree 1 three_rows 0 three_rows 1 → ⊥
three_part a =
    let b : Alike three_rows 1 three_rows 2 = agree_alike three_rows three_rows 0 1 2 (agree_input three_rows three_rows 0 0 1 a 0 (omega arith)) in
    omega arith

-- ---- one label, and 0 inputs or 1: two trees

abbrev pub two_counts : Graph
two_counts = short (hold ∷ hold ∷ []) (0 ∷ 1 ∷ []) (0 ∷ 1 ∷ [])

pub counts_part : SameTree two_counts 0 two_counts 1 → ⊥
counts_part s = let a = same_alike s in omega arith

-- ---- a hold of its own row and two holds of each other: one tree

abbrev pub one_turn : Graph
one_turn = short (hold ∷ []) (1 ∷ []) (0 ∷ [])

abbrev pub two_turns : Graph
two_turns = short (hold ∷ hold ∷ []) (1 ∷ 1 ∷ []) (1 ∷ 0 ∷ [])

data Turn : ℕ → ℕ → Type 0 where
  even : Turn 0 0
  odd : Turn 0 1

turning : Matching one_turn two_turns Turn
turning = record { alike = alike; inputs = inputs }
  where
    alike : (u v : ℕ) → Turn u v → Alike one_turn u two_turns v
    alike u v even = record { labels = refl; counts = refl }
    alike u v odd = record { labels = refl; counts = refl }

    inputs : (u v : ℕ) → Turn u v → (j : ℕ) → j < one_turn.count u → Turn (one_turn.input u j) (two_turns.input v j)
    inputs u v even j l = odd
    inputs u v odd j l = even

pub turns_same : (SameTree one_turn 0 two_turns 0) × (SameTree one_turn 0 two_turns 1) × (SameTree two_turns 0 two_turns 1)
turns_same =
    let a = matching_same turning even in
    let b = matching_same turning odd in
    (a, b, same_trans (same_sym a) b)
