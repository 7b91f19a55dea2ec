-- Inner: rounds with a hastening between: the rows are sorted, or the classes are ready for more.
use Rattle.std.specs.Prelude.{ℕ, ◌<◌, List, Option, Some, None}
use Rattle.rows.specs.Joined.{Source}
use Rattle.rows.specs.View.{view_rows}
use Rattle.rounds.specs.Classes.{class_of}
use Rattle.rounds.specs.Ending.{spread}
use Rattle.hastening.specs.Ready.{Underway}
use Rattle.classes.specs.Settled.{SortedOver}

-- the rows are sorted, or the classes are ready for more
pub data SomeSays (s : Source) (table old cls new links : List ℕ) : Option ℕ → Type 0 where
  some_sorted : SortedOver s table old cls → SomeSays s table old cls new links None
  some_left : {made : ℕ} → Underway s table old cls new links → SomeSays s table old cls new links (Some made)

-- and nearer to the end, where rows were not named between
pub data RoundsSay (s : Source) (table old cls new links : List ℕ) : Option ℕ → Type 0 where
  rounds_sorted : SortedOver s table old cls → RoundsSay s table old cls new links None
  rounds_more : {made : ℕ} → Underway s table old cls new links → spread (view_rows s table) (class_of cls) < spread (view_rows s table) (class_of old) → RoundsSay s table old cls new links (Some made)
