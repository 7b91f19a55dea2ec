-- Inner: marks of rows that go by class, and what the choice of them is lent.
use Rattle.std.specs.Prelude.{ℕ, ◌+◌, ◌≤◌, ◌<◌, ◌≡◌, List, length}
use Rattle.rows.specs.Joined.{Source}
use Rattle.rows.specs.View.{Viewed, view_rows}
use Rattle.rounds.specs.Classes.{class_of}
use Rattle.rounds.specs.Placing.{Classes}

-- rows of one class have one mark
pub record ByClass (n : ℕ) (cls marks : List ℕ) : Type 0 where
  pub one : (u v : ℕ) → u < n → v < n → class_of cls u ≡ class_of cls v → class_of marks u ≡ class_of marks v

-- the rows of a view with their classes, a mark for each, and links
pub record Choosing (s : Source) (table cls marks links : List ℕ) : Type 0 where
  pub view : Viewed s table
  pub classes : Classes (view_rows s table) cls
  pub marks_long : view_rows s table ≤ length marks
  pub links_long : length links ≡ 4096

-- where the flag of row u's class stands
pub record FlagAt (cls : List ℕ) (u k : ℕ) : Type 0 where
  pub there : k ≡ 2048 + class_of cls u
  pub small : k < 4096
