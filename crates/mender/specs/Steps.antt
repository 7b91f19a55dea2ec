-- Inner: what each step of mending asks and leaves.
use Rattle.std.specs.Prelude.{ℕ, ◌≤◌, ◌<◌, ◌≡◌, List, length, get_or}
use Rattle.rules.specs.Lists.{widest}
use Rattle.trees.specs.Sorting.{Sorted}
use Rattle.store.specs.Layout.{in_use, store_graph}
use Rattle.store.specs.Sound.{Shaped}
use Rattle.rounds.specs.Classes.{class_of}
use Rattle.mends.specs.Dropped.{taken}
use Rattle.marking.specs.Marking.{RowsMarked}
use Rattle.tallying.specs.Counted.{Counted}
use Rattle.cleaning.specs.Cleaned.{Cleaned}
use Rattle.renumbering.specs.Numbered.{NumbersGiven}

-- n is the count taken, and there is an entry for each of these rows
pub record MendAsks (most n : ℕ) (w list : List ℕ) : Type 0 where
  pub some : 0 < most
  pub limit : most ≤ widest
  pub words : 0 < length w
  pub counted : n ≡ taken most w
  pub entries : n ≤ length list

-- dropped rows are marked in the list, the counts are taken, and then each row is the row of its box
pub record Prepared (most n : ℕ) (w old v list : List ℕ) (dropped wires cleared : ℕ) : Type 0 where
  pub marked : RowsMarked most n w old list
  pub counts : Counted most n w list dropped wires cleared
  pub cleaned : Cleaned most n list w v

-- a list of so many zeros
pub record Zeros (long : ℕ) (l : List ℕ) : Type 0 where
  pub all : length l ≡ long
  pub zero : (i : ℕ) → get_or l i 0 ≡ 0

-- a shaped store, and memory for the classes of its rows and their numbers
pub record FillAsks (most n : ℕ) (w list cls numbers : List ℕ) : Type 0 where
  pub limit : most ≤ widest
  pub shaped : Shaped most w
  pub counted : n ≡ in_use w
  pub classes : length cls ≡ 1024
  pub zeros : Zeros 1024 numbers
  pub entries : n ≤ length list

-- the list is filled by the classes of the rows, and so many numbers are given
pub record ListFilled (most n : ℕ) (w list list' : List ℕ) (kept : ℕ) : Type 0 where
  pub classes : List ℕ
  pub sorted : Sorted (store_graph most w) n (class_of classes)
  pub given : NumbersGiven n classes list list' kept
