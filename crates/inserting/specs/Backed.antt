-- Inner: the back of an insert: the rows of store and sheet sorted, and the store's own rows of different trees.
use Rattle.std.specs.Prelude.{ℕ, ◌+◌, ◌≤◌, ◌≡◌, List, length}
use Rattle.trees.specs.Sorting.{Sorted}
use Rattle.rows.specs.Joined.{source, joined}
use Rattle.rounds.specs.Classes.{class_of}
use Rattle.numbering.specs.Numbers.{trees_below}
use Rattle.store.specs.Layout.{room}
use Rattle.classes.specs.Own.{OwnClasses}
use Rattle.wiring.specs.Spots.{Spotted}

pub record Backed (w b : List ℕ) (stored : ℕ) (table cls : List ℕ) : Type 0 where
  pub spotted : Spotted w b stored table
  pub long : stored + length table ≤ length cls
  pub sorted : Sorted (joined (source room w stored b)) (stored + length table) (class_of cls)
  pub own : OwnClasses stored cls

-- there is an answer for each row, and the trees are counted
pub record Totalled (w b : List ℕ) (stored : ℕ) (table cls answers : List ℕ) (total : ℕ) : Type 0 where
  pub backed : Backed w b stored table cls
  pub trees : total ≡ trees_below (class_of cls) (stored + length table)
  pub answered : length table ≤ length answers
