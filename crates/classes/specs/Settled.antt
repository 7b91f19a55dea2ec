-- Inner: round after round: what a round asks of the classes, and what it leaves of them.
use Rattle.std.specs.Prelude.{◌≡◌, ℕ, ◌<◌, List, Option, Some, None}
use Rattle.trees.specs.Sorting.{Sorted}
use Rattle.rows.specs.Joined.{Source, joined}
use Rattle.rows.specs.View.{view_rows}
use Rattle.rounds.specs.Classes.{class_of, Stands}
use Rattle.rounds.specs.Ending.{spread}
use Rattle.hastening.specs.Ready.{Ready}

-- the rows sorted: the array holds a class for each row of the view, and its other entries stand
pub record SortedOver (s : Source) (table old cls : List ℕ) : Type 0 where
  pub sorted : Sorted (joined s) (view_rows s table) (class_of cls)
  pub stands : Stands (view_rows s table) old cls

-- a round: nothing moved, and the classes are sorted; or a row moved, and the classes are nearer to the end
pub data RoundSays (s : Source) (table cls cls' new' links' : List ℕ) : Option ℕ → Type 0 where
  says_settled : cls' ≡ cls → Sorted (joined s) (view_rows s table) (class_of cls) → RoundSays s table cls cls' new' links' None
  says_refined : {made : ℕ} → Ready s table cls' new' links' → Stands (view_rows s table) cls cls' → spread (view_rows s table) (class_of cls') < spread (view_rows s table) (class_of cls) → RoundSays s table cls cls' new' links' (Some made)
