-- Inner: all rows looked at once, each named if it can be.
use Rattle.std.specs.Prelude.{ℕ, ◌≤◌, ◌<◌, ◌≡◌, List, Bool, true, false}
use Rattle.trees.specs.Graph.{Graph}
use Rattle.rows.specs.Joined.{Source, joined}
use Rattle.rows.specs.View.{view_rows}
use Rattle.rounds.specs.Classes.{class_of}
use Rattle.naming.specs.InNaming.{InNaming, InputsNamed, PassedIn, Went}

-- no mark but row u's changed, and it has a name where it had one
pub record MarkChanged (marks marks' : List ℕ) (u : ℕ) : Type 0 where
  pub others : (v : ℕ) → (v ≡ u → ⊥) → class_of marks' v ≡ class_of marks v
  pub fore : class_of marks u ≡ 1 → class_of marks' u ≡ 1
  pub back : class_of marks' u ≡ 1 → class_of marks u ≡ 1

-- row u is named, or an input of it is not, or it has found no room
pub record LeftAt (g : Graph) (cls marks links : List ℕ) (u : ℕ) : Type 0 where
  pub few : class_of marks u ≤ 1
  pub full : (class_of marks u ≡ 1 → ⊥) → InputsNamed g marks u → PassedIn g cls links u 64

-- row u looked at: it was named just now; or it was before, or cannot be
pub data ScanRow (s : Source) (table cls marks links cls' marks' links' : List ℕ) (u : ℕ) : Bool → Type 0 where
  row_named : Went s table cls marks cls' marks' links' → (class_of marks u ≡ 1 → ⊥) → class_of marks' u ≡ 1 → ScanRow s table cls marks links cls' marks' links' u true
  row_left : InNaming s table cls' marks' links' → cls' ≡ cls → links' ≡ links → MarkChanged marks marks' u → LeftAt (joined s) cls' marks' links' u → ScanRow s table cls marks links cls' marks' links' u false

-- and what was known before is known still
pub data ScanMore (s : Source) (table cls marks links cls' marks' links' : List ℕ) (u : ℕ) (some : Bool) : Bool → Type 0 where
  more_now : ScanRow s table cls marks links cls' marks' links' u true → ScanMore s table cls marks links cls' marks' links' u some true
  more_before : ScanRow s table cls marks links cls' marks' links' u false → ScanMore s table cls marks links cls' marks' links' u some some

-- the first u rows looked at: a row was named, or none was and each of them is left as it is
pub data ScanTo (s : Source) (table cls marks links cls' marks' links' : List ℕ) (u : ℕ) : Bool → Type 0 where
  to_some : Went s table cls marks cls' marks' links' → (w : ℕ) → w < view_rows s table → (class_of marks w ≡ 1 → ⊥) → class_of marks' w ≡ 1 → ScanTo s table cls marks links cls' marks' links' u true
  to_none : Went s table cls marks cls' marks' links' → cls' ≡ cls → links' ≡ links → ((v : ℕ) → class_of marks' v ≡ 1 → class_of marks v ≡ 1) → ((v : ℕ) → v < u → LeftAt (joined s) cls' marks' links' v) → ScanTo s table cls marks links cls' marks' links' u false
