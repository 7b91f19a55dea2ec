-- What a done insert writes. g is the joined view, c u the first row with the tree of row u; the first `stored` rows are the store's.
use Rattle.std.specs.Prelude.{ℕ, zero, suc, ◌+◌, ◌≤◌, ◌<◌, ◌≡◌, List, Bool, false, set, eqb, leb}
use Rattle.std.proofs.lemmas.List.Edits.{sets}
use Rattle.rules.specs.Pick.{pick}
use Rattle.rules.specs.Lists.{in_room, widest}
use Rattle.trees.specs.Graph.{Graph}
use Rattle.store.specs.Layout.{row_word, label_of, count_of, input_of}
use Rattle.store.specs.Rows.{words_of_row}
use Rattle.store.specs.declared.row.Row.{Row}
use Rattle.numbering.specs.Numbers.{trees_below, row_number}

-- a row that is new: a sheet row that is the first appearance of its tree
unfoldable pub is_new : (stored : ℕ) → (ℕ → ℕ) → ℕ → Bool
is_new stored c u = pick (leb stored u) (eqb (c u) u) false

-- an input as the store number of its tree
abbrev pub input_number : Graph → (ℕ → ℕ) → (u j : ℕ) → ℕ
input_number g c u j = row_number c (g.input u j)

-- the row that is added: each input as the store number of its tree, unused input words zero
unfoldable pub new_row : Graph → (ℕ → ℕ) → ℕ → Row
new_row g c u =
    record { label = g.label u; count = g.count u; inputs = in_room widest (input_number g c u) (g.count u) }

-- the words with the new ones of the first u rows put at their numbers
unfoldable pub rows_put : (most : ℕ) → Graph → (ℕ → ℕ) → (stored : ℕ) → List ℕ → ℕ → List ℕ
rows_put most g c stored w zero = w
rows_put most g c stored w (suc u) =
    pick (is_new stored c u)
    (sets (rows_put most g c stored w u) (row_word most (trees_below c u)) (words_of_row most (new_row g c u)))
    (rows_put most g c stored w u)

-- and the new count into word 0
unfoldable pub store_written : (most : ℕ) → Graph → (ℕ → ℕ) → (stored n : ℕ) → List ℕ → List ℕ
store_written most g c stored n w = set (rows_put most g c stored w n) 0 (trees_below c n)

-- the answer for sheet row i: its tree's number
unfoldable pub answer_of : (ℕ → ℕ) → (stored i : ℕ) → ℕ
answer_of c stored i = row_number c (stored + i)

-- row m of the store v is row u of a graph, with each input as its tree's number
pub record HasRow (most : ℕ) (g : Graph) (c : ℕ → ℕ) (u : ℕ) (v : List ℕ) (m : ℕ) : Type 0 where
  pub label : label_of most v m ≡ g.label u
  pub count : count_of most v m ≡ g.count u
  pub used : (j : ℕ) → j < g.count u → input_of most v m j ≡ row_number c (g.input u j)
  pub unused : (j : ℕ) → g.count u ≤ j → j < most → input_of most v m j ≡ 0
