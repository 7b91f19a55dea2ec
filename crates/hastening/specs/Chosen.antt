-- Inner: between rounds: from classes taken whole to all rows named that can be.
use Rattle.std.specs.Prelude.{ℕ, ◌≤◌, ◌<◌, ◌≡◌, List, Bool, true, false, length}
use Rattle.rows.specs.Joined.{Source, joined}
use Rattle.trees.specs.Sorting.{Coarse}
use Rattle.rows.specs.View.{Viewed, view_rows}
use Rattle.rounds.specs.Classes.{class_of, Stands}
use Rattle.rounds.specs.Placing.{Classes}
use Rattle.names.specs.Waiting.{waiting}
use Rattle.naming.specs.InNaming.{InNaming, Went}
use Rattle.scanning.specs.Scanned.{LeftAt}
use Rattle.choosing.specs.Marked.{ByClass}

-- classes that part no rows of one tree, and marks that go by class
pub record Chosen (s : Source) (table cls marks links : List ℕ) : Type 0 where
  pub view : Viewed s table
  pub classes : Classes (view_rows s table) cls
  pub coarse : Coarse (joined s) (view_rows s table) (class_of cls)
  pub marks_long : view_rows s table ≤ length marks
  pub links_long : length links ≡ 4096
  pub classed : ByClass (view_rows s table) cls marks

-- each row is named, or an input of it is not, or it has found no room
pub record AllNamed (s : Source) (table old cls marks links : List ℕ) : Type 0 where
  pub naming : InNaming s table cls marks links
  pub stands : Stands (view_rows s table) old cls
  pub left : (u : ℕ) → u < view_rows s table → LeftAt (joined s) cls marks links u

-- a walk and a look at all rows: fewer rows are without a name, or all that can be are named
pub data TurnSays (s : Source) (table cls marks cls' marks' links' : List ℕ) : Bool → Type 0 where
  turn_on : Went s table cls marks cls' marks' links' → waiting (view_rows s table) (class_of marks') < waiting (view_rows s table) (class_of marks) → TurnSays s table cls marks cls' marks' links' true
  turn_over : AllNamed s table cls cls' marks' links' → TurnSays s table cls marks cls' marks' links' false
