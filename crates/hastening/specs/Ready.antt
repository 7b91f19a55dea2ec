-- Inner: classes of a view's rows that are ready for a round.
use Rattle.std.specs.Prelude.{ℕ, List}
use Rattle.rows.specs.Joined.{Source, joined}
use Rattle.rows.specs.View.{Viewed, view_rows}
use Rattle.rounds.specs.Classes.{Stands}
use Rattle.rounds.specs.Settling.{Sorting}

pub record Ready (s : Source) (table cls new links : List ℕ) : Type 0 where
  pub view : Viewed s table
  pub sorting : Sorting (joined s) (view_rows s table) cls cls new links

-- and the array's entries past the rows are as they were
pub record Underway (s : Source) (table old cls new links : List ℕ) : Type 0 where
  pub ready : Ready s table cls new links
  pub stands : Stands (view_rows s table) old cls
