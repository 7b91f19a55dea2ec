-- Inner: what the sorting asks of the memory that it looks at, by the parts that its functions are lent.
use Rattle.std.specs.Prelude.{ℕ, ◌<◌, List, length, get_or}
use Rattle.rows.specs.Joined.{Source}
use Rattle.rows.specs.View.{Viewed, view_rows}
use Rattle.rounds.specs.Placing.{Classes}

-- there is a class for each of the four inputs whose classes stand in one number
pub record InputsInside (cls inputs : List ℕ) : Type 0 where
  pub each : (j : ℕ) → j < 4 → get_or inputs j 0 < length cls

-- the rows of a store and a sheet, and their old classes
pub record Sighted (s : Source) (table cls : List ℕ) : Type 0 where
  pub view : Viewed s table
  pub classes : Classes (view_rows s table) cls
