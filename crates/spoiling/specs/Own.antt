-- Inner: rows that are spoiled by themselves, whatever the others are.
use Rattle.std.specs.Prelude.{ℕ, ◌≤◌, ◌<◌, ◌≡◌, List, length, set}
use Rattle.rules.specs.Lists.{widest}
use Rattle.store.specs.Layout.{count_of, input_of, capacity_of, store_graph}
use Rattle.store.specs.Rows.{RowThere}
use Rattle.wires.specs.Wires.{Wire}
use Rattle.mends.specs.Entries.{entry_of, Marked}

-- a used input of row u is no row taken
pub record AstrayInput (most : ℕ) (w : List ℕ) (rows u : ℕ) : Type 0 where
  pub place : ℕ
  pub used : place < count_of most w u
  pub past : rows ≤ input_of most w u place

-- a wire without exactly one input
pub record WrongWire (most : ℕ) (w : List ℕ) (u : ℕ) : Type 0 where
  pub wire : Wire (store_graph most w) u
  pub count : count_of most w u ≡ 1 → ⊥

-- spoiled, but for loops of wires
pub data OwnFault (most : ℕ) (w : List ℕ) (rows u : ℕ) : Type 0 where
  crowded : most < count_of most w u → OwnFault most w rows u
  astray : AstrayInput most w rows u → OwnFault most w rows u
  wired_wrong : WrongWire most w u → OwnFault most w rows u

-- row u is there, and within the limit
pub record InputAsks (most : ℕ) (w : List ℕ) (u : ℕ) : Type 0 where
  pub there : RowThere most w u
  pub few : count_of most w u ≤ most

-- the first n rows are there, with an entry each
pub record OwnAsks (most n : ℕ) (w list : List ℕ) : Type 0 where
  pub limit : most ≤ widest
  pub room : n ≤ capacity_of most (length w)
  pub entries : n ≤ length list

-- the first u rows are marked, if they are spoiled so, or not; the other entries stand
pub record OwnMarked (most n : ℕ) (w old new : List ℕ) (u : ℕ) : Type 0 where
  pub some : u ≤ n
  pub long : length new ≡ length old
  pub fault : (x : ℕ) → x < u → Marked new x → OwnFault most w n x
  pub fine : (x : ℕ) → x < u → (Marked new x → ⊥) → OwnFault most w n x → ⊥
  pub rest : (x : ℕ) → u ≤ x → entry_of new x ≡ entry_of old x

-- row u is marked, or its entry is 0
pub data MarkSays (most : ℕ) (w : List ℕ) (rows : ℕ) (old : List ℕ) (u : ℕ) : List ℕ → Type 0 where
  mark_bad : {new : List ℕ} → OwnFault most w rows u → new ≡ set old u 4294967295 → MarkSays most w rows old u new
  mark_good : {new : List ℕ} → (OwnFault most w rows u → ⊥) → new ≡ set old u 0 → MarkSays most w rows old u new
