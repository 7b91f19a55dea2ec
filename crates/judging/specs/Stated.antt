-- Inner: rows as they are drawn, with a state for each.
use Rattle.std.specs.Prelude.{ℕ, List}
use Rattle.rows.specs.Joined.{Source}
use Rattle.rows.specs.View.{Drawn, Entries}

pub record Stated (s : Source) (table state : List ℕ) : Type 0 where
  pub view : Drawn s table
  pub long : Entries s table state
