-- Inner: rows named between rounds, over the arrays of the sorting: the classes become names, the new classes' array holds the marks, and the
-- links hold the way back of a walk (a row's entry) and the slots of named heads (the entries behind them).
use Rattle.std.specs.Prelude.{ℕ, suc, ◌+◌, ◌≤◌, ◌<◌, ◌≡◌, List, Bool, true, false, length}
use Rattle.trees.specs.Graph.{Graph}
use Rattle.rows.specs.Joined.{Source, joined}
use Rattle.rows.specs.View.{Viewed, view_rows}
use Rattle.rounds.specs.Classes.{class_of, Stands}
use Rattle.rounds.specs.Rounds.{SameSig}
use Rattle.rounds.specs.Buckets.{bucket_in}
use Rattle.names.specs.Naming.{Naming}
use Rattle.names.specs.Slots.{Slots, Passed, place}
use Rattle.signatures.specs.Signed.{signature_in}
use Rattle.signatures.specs.declared.signature.Signature.{Signature}
use Rattle.naming.specs.declared.naming.Slot.{Slot}
use Rattle.naming.specs.declared.naming.Slot.TheVariants.{Same, Free, Full}

abbrev pub slot_of : List ℕ → ℕ → ℕ
slot_of links p = class_of links (2048 + p)

pub record InNaming (s : Source) (table cls marks links : List ℕ) : Type 0 where
  pub view : Viewed s table
  pub naming : Naming (joined s) (view_rows s table) (class_of cls) (class_of marks)
  pub slots : Slots (joined s) (view_rows s table) (class_of cls) (class_of marks) naming.rank (bucket_in (joined s) (class_of cls)) (slot_of links)
  pub cls_long : view_rows s table ≤ length cls
  pub marks_long : view_rows s table ≤ length marks
  pub links_long : length links ≡ 4096
  pub inside : (u : ℕ) → u < view_rows s table → class_of cls u < view_rows s table

-- all inputs of row u are named
pub record InputsNamed (g : Graph) (marks : List ℕ) (u : ℕ) : Type 0 where
  pub each : (j : ℕ) → j < g.count u → class_of marks (g.input u j) ≡ 1

-- row u can be named, and it is not yet
pub record Nameable (s : Source) (table marks : List ℕ) (u : ℕ) : Type 0 where
  pub row : u < view_rows s table
  pub bare : class_of marks u ≡ 1 → ⊥
  pub named : InputsNamed (joined s) marks u

-- the first k slots from row u's bucket on are taken by rows without its signature
abbrev pub PassedIn : Graph → (cls links : List ℕ) → (u k : ℕ) → Type 0
PassedIn g cls links u k = Passed g (class_of cls) (slot_of links) (bucket_in g (class_of cls) u) u k

-- what row u looks for: its signature, from its bucket on
pub record Probing (g : Graph) (cls : List ℕ) (u : ℕ) (sig : Signature) (b : ℕ) : Type 0 where
  pub signed : sig ≡ signature_in g (class_of cls) u
  pub bucket : b ≡ bucket_in g (class_of cls) u
  pub small : b < 2048

-- what row u met
pub data SlotSays (g : Graph) (cls links : List ℕ) (u : ℕ) : Slot → Type 0 where
  says_same : {h : ℕ} → (p : ℕ) → slot_of links p ≡ suc h → SameSig g (class_of cls) h u → SlotSays g cls links u (Same h)
  says_free : {p : ℕ} → (k : ℕ) → k < 64 → PassedIn g cls links u k → p ≡ place (bucket_in g (class_of cls) u) k → slot_of links p ≡ 0 → SlotSays g cls links u (Free p)
  says_full : PassedIn g cls links u 64 → SlotSays g cls links u Full

-- naming went on: named rows stay named, and entries past the rows stand
pub record Went (s : Source) (table cls marks cls' marks' links' : List ℕ) : Type 0 where
  pub naming : InNaming s table cls' marks' links'
  pub stands : Stands (view_rows s table) cls cls'
  pub kept : (u : ℕ) → u < view_rows s table → class_of marks u ≡ 1 → class_of marks' u ≡ 1

-- row u was named; or no named row has its signature and there is no room for it, and all is as it was
pub data NameSays (s : Source) (table cls marks links cls' marks' links' : List ℕ) (u : ℕ) : Bool → Type 0 where
  says_named : Went s table cls marks cls' marks' links' → class_of marks' u ≡ 1 → NameSays s table cls marks links cls' marks' links' u true
  says_unnamed : cls' ≡ cls → marks' ≡ marks → links' ≡ links → PassedIn (joined s) cls links u 64 → NameSays s table cls marks links cls' marks' links' u false
