-- The rows taken of an old store, and which of them are dropped.
use Rattle.std.specs.Prelude.{ℕ, ◌≤◌, ◌<◌, min, ◌≡◌, List, ◌⊎◌, length}
use Rattle.trees.specs.Graph.{Graph}
use Rattle.trees.specs.Paths.{Leads}
use Rattle.wires.specs.Wires.{Wire, WireLoop, skipping}
use Rattle.store.specs.Layout.{in_use, count_of, input_of, capacity_of, store_graph}

-- a count above the capacity is taken as the capacity
unfoldable pub taken : (most : ℕ) → List ℕ → ℕ
taken most w = min (in_use w) (capacity_of most (length w))

-- row n, in a store of which so many rows are taken: too many inputs, an input that is no row taken, a wire of the wrong count, or a wire in a loop of wires
pub data Spoiled (most : ℕ) (w : List ℕ) (rows n : ℕ) : Type 0 where
  crowded : most < count_of most w n → Spoiled most w rows n
  astray : {j : ℕ} → j < count_of most w n → rows ≤ input_of most w n j → Spoiled most w rows n
  wired_wrong : Wire (store_graph most w) n → (count_of most w n ≡ 1 → ⊥) → Spoiled most w rows n
  looping : WireLoop (store_graph most w) n → Spoiled most w rows n

-- some path, the empty one too, leads from row n to a spoiled row
pub record Dropped (most : ℕ) (w : List ℕ) (rows n : ℕ) : Type 0 where
  pub row : ℕ
  pub within : row < rows
  pub spoiled : Spoiled most w rows row
  pub leads : Leads (store_graph most w) n row

-- dropped, or a wire; any other row is a box
abbrev pub NoBox : (most : ℕ) → List ℕ → (rows n : ℕ) → Type 0
NoBox most w rows n = Dropped most w rows n ⊎ Wire (store_graph most w) n

-- the store's rows with wires skipped: the trees of those that are not dropped
abbrev pub left : (most : ℕ) → List ℕ → Graph
left most w = skipping (store_graph most w)
