-- Inner: jumps in the list: for each row not marked a row that wires lead to.
use Rattle.std.specs.Prelude.{ℕ, zero, suc, ◌+◌, ◌≤◌, ◌<◌, ◌≡◌, List, length, set}
use Rattle.rules.specs.Lists.{widest}
use Rattle.trees.specs.Graph.{Graph}
use Rattle.store.specs.Layout.{capacity_of, store_graph}
use Rattle.store.specs.Rows.{RowThere}
use Rattle.wires.specs.Wires.{Wire, follow, most_wires, through}
use Rattle.wires.specs.Jumps.{Jump}
use Rattle.mends.specs.Entries.{entry_of, Marked}

-- each row not marked has a jump of at least so many wires
pub record Jumps (g : Graph) (n least : ℕ) (list : List ℕ) : Type 0 where
  pub each : (u : ℕ) → u < n → (Marked list u → ⊥) → Jump g least u (entry_of list u)

-- an entry for each row; that of a row not marked names a row not marked
pub record Named (n : ℕ) (list : List ℕ) : Type 0 where
  pub long : n ≤ length list
  pub row : (u : ℕ) → u < n → (Marked list u → ⊥) → entry_of list u < n
  pub left : (u : ℕ) → u < n → (Marked list u → ⊥) → Marked list (entry_of list u) → ⊥

-- the same rows are marked, and entries past the first n stand
pub record SameMarks (n : ℕ) (old new : List ℕ) : Type 0 where
  pub long : length new ≡ length old
  pub past : (u : ℕ) → n ≤ u → entry_of new u ≡ entry_of old u
  pub to : (u : ℕ) → Marked old u → Marked new u
  pub from : (u : ℕ) → Marked new u → Marked old u

-- so many times doubled
unfoldable pub doubled : ℕ → ℕ → ℕ
doubled zero least = least
doubled (suc k) least = doubled k least + doubled k least

-- jumps of so many wires become jumps of so many times as many
pub record Doubled (n : ℕ) (old new : List ℕ) (k : ℕ) : Type 0 where
  pub of : (g : Graph) (least : ℕ) → Jumps g n least old → Jumps g n (doubled k least) new

-- ---- one row

-- row u has an entry, and so has the row that its entry names
pub record OnAsks (list : List ℕ) (u : ℕ) : Type 0 where
  pub entry : u < length list
  pub next : (Marked list u → ⊥) → entry_of list u < length list

-- the jump of row u is taken on, unless the row is marked
pub data JumpedOn (old : List ℕ) (u : ℕ) : List ℕ → Type 0 where
  on_stays : {new : List ℕ} → Marked old u → new ≡ old → JumpedOn old u new
  on_goes : {new : List ℕ} → (Marked old u → ⊥) → new ≡ set old u (entry_of old (entry_of old u)) → JumpedOn old u new

-- ---- endless wires

-- the row that the entry of row u names is there
pub record EndAsks (most : ℕ) (w list : List ℕ) (u : ℕ) : Type 0 where
  pub entry : u < length list
  pub there : (Marked list u → ⊥) → RowThere most w (entry_of list u)

-- row u is marked now, if its jump ends in a wire
pub data EndRow (most : ℕ) (w old : List ℕ) (u : ℕ) : List ℕ → Type 0 where
  end_marked : {new : List ℕ} → Marked old u → new ≡ old → EndRow most w old u new
  end_box : {new : List ℕ} → (Marked old u → ⊥) → (Wire (store_graph most w) (entry_of old u) → ⊥) → new ≡ old → EndRow most w old u new
  end_wire : {new : List ℕ} → (Marked old u → ⊥) → Wire (store_graph most w) (entry_of old u) → new ≡ set old u 4294967295 → EndRow most w old u new

-- the entries of rows that are not marked name rows of the store
pub record EndlessAsks (most n : ℕ) (w list : List ℕ) : Type 0 where
  pub limit : most ≤ widest
  pub room : n ≤ capacity_of most (length w)
  pub named : Named n list

-- of the first u rows those are marked whose jump ended in a wire; the other entries stand
pub record Ended (most n : ℕ) (w old new : List ℕ) (u : ℕ) : Type 0 where
  pub some : u ≤ n
  pub long : length new ≡ length old
  pub marks : (x : ℕ) → Marked old x → Marked new x
  pub stands : (x : ℕ) → (Marked new x → ⊥) → entry_of new x ≡ entry_of old x
  pub box : (x : ℕ) → x < u → (Marked new x → ⊥) → Wire (store_graph most w) (entry_of new x) → ⊥
  pub wire : (x : ℕ) → x < u → (Marked old x → ⊥) → Marked new x → Wire (store_graph most w) (entry_of old x)
  pub rest : (x : ℕ) → u ≤ x → entry_of new x ≡ entry_of old x

-- ---- the first jumps

-- row u is there, with an entry and room for an input
pub record FirstAsks (most : ℕ) (w list : List ℕ) (u : ℕ) : Type 0 where
  pub entry : u < length list
  pub there : RowThere most w u
  pub inputs : 0 < most

-- the entry of row u is where one wire leads from it, unless it is marked
pub data FirstRow (most : ℕ) (w old : List ℕ) (u : ℕ) : List ℕ → Type 0 where
  first_marked : {new : List ℕ} → Marked old u → new ≡ old → FirstRow most w old u new
  first_left : {new : List ℕ} → (Marked old u → ⊥) → new ≡ set old u (follow (store_graph most w) 1 u) → FirstRow most w old u new

-- where one wire leads from a row not marked is a row not marked
pub record JumpsAsk (most n : ℕ) (w list : List ℕ) : Type 0 where
  pub limit : most ≤ widest
  pub some : 0 < most
  pub room : n ≤ capacity_of most (length w)
  pub entries : n ≤ length list
  pub within : (u : ℕ) → u < n → (Marked list u → ⊥) → follow (store_graph most w) 1 u < n
  pub left : (u : ℕ) → u < n → (Marked list u → ⊥) → Marked list (follow (store_graph most w) 1 u) → ⊥

-- ---- all of it

-- of the rows that were not marked those are now that wires lead on from for ever; the entry of any other is the box that wires lead to
pub record Led (most n : ℕ) (w old new : List ℕ) : Type 0 where
  pub long : length new ≡ length old
  pub past : (u : ℕ) → n ≤ u → entry_of new u ≡ entry_of old u
  pub marks : (u : ℕ) → Marked old u → Marked new u
  pub jump : (u : ℕ) → u < n → (Marked new u → ⊥) → Jump (store_graph most w) most_wires u (entry_of new u)
  pub box : (u : ℕ) → u < n → (Marked new u → ⊥) → Wire (store_graph most w) (entry_of new u) → ⊥
  pub endless : (u : ℕ) → u < n → (Marked old u → ⊥) → Marked new u → Wire (store_graph most w) (through (store_graph most w) u)
