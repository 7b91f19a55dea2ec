-- The store as words. Word 0 is the count of rows in use. Row n is the words from word 1 + n * (most + 2): label, input count, and one word
-- for each of the most inputs that a row has room for (four: six words a row). A word past the end reads as 0.
use Rattle.std.specs.Prelude.{ℕ, ◌+◌, ◌-◌, ◌*◌, ◌/◌, min, List, [], ◌∷◌, get_or, eqb, Option, Some, None}
use Rattle.rules.specs.Pick.{pick}
use Rattle.trees.specs.Graph.{Graph}

abbrev pub word_at : List ℕ → ℕ → ℕ
word_at w at = get_or w at 0

-- inputs for which a row of the register's stores has room
abbrev pub room : ℕ
room = 4

abbrev pub in_use : List ℕ → ℕ
in_use w = word_at w 0

unfoldable pub row_word : (most n : ℕ) → ℕ
row_word most n = 1 + n * (most + 2)

abbrev pub label_of : (most : ℕ) → List ℕ → ℕ → ℕ
label_of most w n = word_at w (row_word most n)

abbrev pub count_of : (most : ℕ) → List ℕ → ℕ → ℕ
count_of most w n = word_at w (row_word most n + 1)

abbrev pub input_of : (most : ℕ) → List ℕ → ℕ → ℕ → ℕ
input_of most w n j = word_at w (row_word most n + 2 + j)

-- the smaller of 1,024 and (words - 1) / 6 rounded down; a run of no words is a case of its own
unfoldable pub capacity_of : (most words : ℕ) → ℕ
capacity_of most words = min 1024 ((words - 1) / (most + 2))

unfoldable pub capacity_answer : (most words : ℕ) → Option ℕ
capacity_answer most words = pick (eqb words 0) None (Some (capacity_of most words))

-- the number of the table that each answer has, and its values: the rows there is room for
abbrev pub capacity_number : Option ℕ → ℕ
capacity_number None = 1
capacity_number (Some capacity) = 0

abbrev pub capacity_values : Option ℕ → List ℕ
capacity_values None = []
capacity_values (Some capacity) = capacity ∷ []

-- the store's rows as a graph
unfoldable pub store_graph : (most : ℕ) → List ℕ → Graph
store_graph most w = record { label = label_of most w; count = count_of most w; input = input_of most w }
