-- The words in which the duties are said.
use Rattle.std.specs.Prelude.{ℕ, ◌-◌, ◌<◌, ◌≡◌, List, [], ◌∷◌, ◌++◌, length, get_or}
use Rattle.rules.specs.Refusals.{Refusal, ◌when◌}
use Rattle.trees.specs.Graph.{Graph}
use Rattle.trees.specs.Agreement.{SameTree}
use Rattle.sheet.specs.Format.{row_count_of}
use Rattle.sheet.specs.Front.{sheet_list}
use Rattle.store.specs.Layout.{in_use, capacity_of, store_graph, room}
use Rattle.store.specs.Sound.{Sound}
use Rattle.wires.specs.Wires.{skipping}
use Rattle.fronting.specs.Front.{wire_list}
use Rattle.keys.specs.Sheets.{sheet_graph}
use Rattle.inserting.specs.declared.insertion.Inserted.{Inserted}
use Rattle.keying.specs.Written.{key_of}

-- the rows of a sheet as their trees are read: with wires skipped
abbrev pub sheet_trees : List ℕ → Graph
sheet_trees b = skipping (sheet_graph b)

-- the answer for sheet row i
abbrev pub answer : List ℕ → ℕ → ℕ
answer answers i = get_or answers i 0

-- row n of a store is the one row in use that has the tree of row u of a graph
pub record OneRow (g : Graph) (u : ℕ) (w : List ℕ) (n : ℕ) : Type 0 where
  pub used : n < in_use w
  pub tree : SameTree g u (store_graph room w) n
  pub only : (m : ℕ) → m < in_use w → SameTree g u (store_graph room w) m → m ≡ n

-- row i of a sheet is the first with its tree: no row of the store has it, and no row before it in the sheet
pub record Appears (w b : List ℕ) (i : ℕ) : Type 0 where
  pub new : (m : ℕ) → m < in_use w → SameTree (sheet_trees b) i (store_graph room w) m → ⊥
  pub first : (k : ℕ) → k < i → SameTree (sheet_trees b) k (sheet_trees b) i → ⊥

-- an earlier row of the sheet has this answer
pub record EarlierRow (answers : List ℕ) (i k : ℕ) : Type 0 where
  pub row : ℕ
  pub before : row < i
  pub given : answer answers row ≡ k

-- so many rows of the sheet, of different trees, none of which a row of the store has
pub record NewTrees (w b : List ℕ) (trees : ℕ) : Type 0 where
  pub row : ℕ → ℕ
  pub of_sheet : (k : ℕ) → k < trees → row k < row_count_of b
  pub apart : (k l : ℕ) → k < trees → l < trees → SameTree (sheet_trees b) (row k) (sheet_trees b) (row l) → k ≡ l
  pub new : (k m : ℕ) → k < trees → m < in_use w → SameTree (sheet_trees b) (row k) (store_graph room w) m → ⊥

-- the new distinct trees outnumber the free rows
pub record Outnumber (w b : List ℕ) : Type 0 where
  pub trees : ℕ
  pub rows : NewTrees w b trees
  pub over : capacity_of room (length w) - in_use w < trees

-- what is listed for an insert before "no room", which is 8
abbrev pub listed_before : (w b answers : List ℕ) → List Refusal
listed_before w b answers =
    (1 when (length w ≡ 0))
    ∷ (2 when (Sound room w → ⊥))
    ∷ (sheet_list b ++ (wire_list b ++ ((7 when (length answers < row_count_of b)) ∷ [])))

-- what an insert gives back and leaves where the tree was number m of the store
pub record KeyKnown (w : List ℕ) (m : ℕ) (r : Inserted) (w' answers' : List ℕ) : Type 0 where
  pub done : r.number ≡ 0
  pub none : r.added ≡ 0
  pub first : answer answers' 0 ≡ m
  pub store : w' ≡ w

-- bytes are the key of a row of a sound store
pub record KeyOfRow (b : List ℕ) : Type 0 where
  pub store : List ℕ
  pub row : ℕ
  pub sound : Sound room store
  pub used : row < in_use store
  pub key : key_of store row ≡ b

-- two outcomes of an insert are the same: what is given back, the stores and the answer lists
pub record SameOutcome (r s : Inserted) (v w a b : List ℕ) : Type 0 where
  pub result : r ≡ s
  pub store : v ≡ w
  pub answers : a ≡ b
