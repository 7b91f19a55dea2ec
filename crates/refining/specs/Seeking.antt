-- Inner: how a row that is not the lowest of its old class finds its place.
use Rattle.std.specs.Prelude.{◌≡◌, ℕ, ◌<◌, List, ◌≢◌}
use Rattle.trees.specs.Graph.{Graph}
use Rattle.rows.specs.Joined.{Source, joined}
use Rattle.rows.specs.View.{view_rows}
use Rattle.rounds.specs.Rounds.{LowestWith}
use Rattle.rounds.specs.Classes.{class_of}
use Rattle.rounds.specs.Buckets.{bucket_in}
use Rattle.rounds.specs.Placing.{InRound, SeekingIn}
use Rattle.signatures.specs.Signed.{signature_in}
use Rattle.signatures.specs.declared.signature.Signature.{Signature}
use Rattle.refining.specs.declared.round.Place.{Place}
use Rattle.refining.specs.declared.round.Place.TheVariants.{With, New}

-- a round over the rows of a view, in which the first u of them are placed
abbrev pub Round : Source → (table cls new links : List ℕ) → ℕ → Type 0
Round s table cls new links u = InRound (joined s) (view_rows s table) cls new links u

-- row u is next, and is not the lowest of its old class
pub record Later (s : Source) (table cls new links : List ℕ) (u old : ℕ) : Type 0 where
  pub row : u < view_rows s table
  pub round : Round s table cls new links u
  pub class : old ≡ class_of cls u
  pub late : old ≡ u → ⊥

-- head h is of an old class and has a signature
pub record GoesWith (g : Graph) (c : ℕ → ℕ) (sig : Signature) (old h : ℕ) : Type 0 where
  pub class : c h ≡ old
  pub same : sig ≡ signature_in g c h

-- row u looks along its chain, and stands at h
pub record SeekingAt (s : Source) (table cls new links : List ℕ) (sig : Signature) (old u h : ℕ) : Type 0 where
  pub later : Later s table cls new links u old
  pub signed : sig ≡ signature_in (joined s) (class_of cls) u
  pub seeking : SeekingIn (joined s) cls new u h

-- the new head that goes with row u, or 0 where there is none
pub record Sought (g : Graph) (cls new : List ℕ) (u r : ℕ) : Type 0 where
  pub below : (r ≢ 0) → r < u
  pub found : (r ≢ 0) → LowestWith g (class_of cls) u r
  pub none : r ≡ 0 → SeekingIn g cls new u 0

-- where row u goes
pub data PlaceSays (g : Graph) (c : ℕ → ℕ) (u : ℕ) : Place → Type 0 where
  says_with : {h : ℕ} → h < u → LowestWith g c u h → PlaceSays g c u (With h)
  says_new : {b : ℕ} → b ≡ bucket_in g c u → b < 2048 → LowestWith g c u u → PlaceSays g c u (New b)
