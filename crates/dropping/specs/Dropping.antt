-- Inner: marks that spread to rows with a marked input.
use Rattle.std.specs.Prelude.{ℕ, zero, suc, ◌+◌, ◌≤◌, ◌<◌, ◌≡◌, Bool, true, false, List, length, set, eqb}
use Rattle.rules.specs.Pick.{pick}
use Rattle.rules.specs.Lists.{widest}
use Rattle.trees.specs.Paths.{Leads}
use Rattle.store.specs.Layout.{count_of, input_of, capacity_of, store_graph}
use Rattle.store.specs.Rows.{RowThere}
use Rattle.mends.specs.Entries.{entry_of, Marked}

-- ---- one row

-- a used input of row u is marked
pub record HasMarked (most : ℕ) (w list : List ℕ) (u : ℕ) : Type 0 where
  pub place : ℕ
  pub used : place < count_of most w u
  pub marked : Marked list (input_of most w u place)

-- row u is there, within the limit, and its inputs have entries
pub record RowSeen (most : ℕ) (w list : List ℕ) (u : ℕ) : Type 0 where
  pub there : RowThere most w u
  pub few : count_of most w u ≤ most
  pub inputs : (j : ℕ) → j < count_of most w u → input_of most w u j < length list

-- input j of row u can be looked at
pub record InputSeen (most : ℕ) (w list : List ℕ) (u j : ℕ) : Type 0 where
  pub there : RowThere most w u
  pub room : j < most
  pub entry : input_of most w u j < length list

-- row u has an entry, and can be looked at if it is not marked
pub record RowAsks (most : ℕ) (w list : List ℕ) (u : ℕ) : Type 0 where
  pub entry : u < length list
  pub seen : (Marked list u → ⊥) → RowSeen most w list u

-- row u is marked now, or there was nothing to do
pub data RowDrops (most : ℕ) (w old : List ℕ) (u : ℕ) : (new : List ℕ) → Bool → Type 0 where
  row_drops : {new : List ℕ} → (Marked old u → ⊥) → HasMarked most w old u → new ≡ set old u 4294967295 → RowDrops most w old u new true
  row_stays : {new : List ℕ} → ((Marked old u → ⊥) → HasMarked most w old u → ⊥) → new ≡ old → RowDrops most w old u new false

-- ---- rounds

-- a row that is not marked is within the limit, and its inputs are rows taken
pub record DropAsks (most n : ℕ) (w list : List ℕ) : Type 0 where
  pub limit : most ≤ widest
  pub room : n ≤ capacity_of most (length w)
  pub entries : n ≤ length list
  pub few : (u : ℕ) → u < n → (Marked list u → ⊥) → count_of most w u ≤ most
  pub inputs : (u : ℕ) → u < n → (Marked list u → ⊥) → (j : ℕ) → j < count_of most w u → input_of most w u j < n

-- a path leads from row u to a marked row
pub record ToMarked (most n : ℕ) (w list : List ℕ) (u : ℕ) : Type 0 where
  pub row : ℕ
  pub within : row < n
  pub marked : Marked list row
  pub leads : Leads (store_graph most w) u row

-- more rows are marked, each of which leads to one that was; the other entries stand
pub record Spread (most n : ℕ) (w old new : List ℕ) : Type 0 where
  pub long : length new ≡ length old
  pub stands : (u : ℕ) → (Marked new u → ⊥) → entry_of new u ≡ entry_of old u
  pub past : (u : ℕ) → n ≤ u → entry_of new u ≡ entry_of old u
  pub marks : (u : ℕ) → Marked old u → Marked new u
  pub leads : (u : ℕ) → u < n → Marked new u → ToMarked most n w old u

-- no row more is to be marked
pub record Still (most n : ℕ) (w list : List ℕ) : Type 0 where
  pub each : (u : ℕ) → u < n → (Marked list u → ⊥) → HasMarked most w list u → ⊥

-- how many rows are not marked
unfoldable pub unmarked : ℕ → List ℕ → ℕ
unmarked zero list = 0
unmarked (suc n) list = unmarked n list + pick (eqb (entry_of list n) 4294967295) 0 1

-- a round marks no row, and none is to be marked; or it marks one
pub data RoundSays (most n : ℕ) (w old : List ℕ) : (new : List ℕ) → Bool → Type 0 where
  round_still : {new : List ℕ} → Still most n w old → new ≡ old → RoundSays most n w old new false
  round_moved : {new : List ℕ} → Spread most n w old new → unmarked n new < unmarked n old → RoundSays most n w old new true

-- the marks are spread as far as they go
pub record Settled (most n : ℕ) (w old new : List ℕ) : Type 0 where
  pub spread : Spread most n w old new
  pub still : Still most n w new
