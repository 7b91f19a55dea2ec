-- Small inserts computed from the definitions: what stands in the store after, and the answers.
use Prim.Native.Nat.{ℕ, zero, suc}
use mathlib.Core.Path.{◌≡◌, refl}
use mathlib.Core.List.{[], ◌∷◌}
use Rattle.rules.specs.Lists.{firsts, in_room}
use Rattle.rules.specs.Writes.{over_front}
use Rattle.trees.specs.Graph.{Graph}
use Rattle.store.specs.Layout.{row_word}
use Rattle.store.specs.Rows.{words_of_row}
use Rattle.numbering.specs.Numbers.{trees_below, row_number}
use Rattle.writing.specs.After.{is_new, new_row, rows_put, store_written, answer_of}

-- a row of one input, which is the row itself
abbrev holds : Graph
holds = record { label = λ u. 393216; count = λ u. 1; input = λ u j. u }

abbrev first : ℕ → ℕ
first u = 0

-- two sheet rows of one tree into a store with no row in use, and into one that has the tree; words past the rows stand
pub two_holds_lem :
    (store_written 4 holds first 0 2 (0 ∷ 9 ∷ 9 ∷ 9 ∷ 9 ∷ 9 ∷ 9 ∷ 9 ∷ []) ≡ 1 ∷ 393216 ∷ 1 ∷ 0 ∷ 0 ∷ 0 ∷ 0 ∷ 9 ∷ [])
    × (firsts (answer_of first 0) 2 ≡ 0 ∷ 0 ∷ [])
    × (store_written 4 holds first 1 3 (1 ∷ 393216 ∷ 1 ∷ 0 ∷ 0 ∷ 0 ∷ 0 ∷ 9 ∷ []) ≡ 1 ∷ 393216 ∷ 1 ∷ 0 ∷ 0 ∷ 0 ∷ 0 ∷ 9 ∷ [])
    × (firsts (answer_of first 1) 2 ≡ 0 ∷ 0 ∷ [])
unfolding store_written rows_put is_new new_row answer_of trees_below row_number row_word words_of_row in_room firsts over_front
two_holds_lem = (refl, refl, refl, refl)

-- row 0 leads to rows 1 and 2, which have one tree
abbrev labels : ℕ → ℕ
labels zero = 7
labels (suc u) = 5

abbrev counts : ℕ → ℕ
counts zero = 2
counts (suc u) = 0

abbrev fork : Graph
fork = record { label = labels; count = counts; input = λ u j. suc j }

abbrev class : ℕ → ℕ
class zero = 0
class (suc u) = 1

-- both inputs are the number of that tree, and the second row is not added
pub one_fork :
    (store_written 4 fork class 0 3 (0 ∷ 9 ∷ 9 ∷ 9 ∷ 9 ∷ 9 ∷ 9 ∷ 9 ∷ 9 ∷ 9 ∷ 9 ∷ 9 ∷ 9 ∷ [])
    ≡ 2 ∷ 7 ∷ 2 ∷ 1 ∷ 1 ∷ 0 ∷ 0 ∷ 5 ∷ 0 ∷ 0 ∷ 0 ∷ 0 ∷ 0 ∷ [])
    × (firsts (answer_of class 0) 3 ≡ 0 ∷ 1 ∷ 1 ∷ [])
unfolding store_written rows_put is_new new_row answer_of trees_below row_number row_word words_of_row in_room firsts over_front
one_fork = (refl, refl)
