-- Inner: what the writing asks of the memory that it is lent: classes and numbers of the rows, the sheet's rows, and room.
use Rattle.std.specs.Prelude.{ℕ, ◌+◌, ◌≤◌, ◌<◌, ◌≡◌, List, length, get_or}
use Rattle.rules.specs.Lists.{widest}
use Rattle.trees.specs.Sorting.{Sorted}
use Rattle.store.specs.Layout.{capacity_of}
use Rattle.rows.specs.Joined.{source, joined}
use Rattle.rows.specs.View.{Viewed}
use Rattle.rounds.specs.Classes.{class_of}
use Rattle.numbering.specs.Numbers.{trees_below}

-- row u has a class, and its class a number
pub record NumberThere (cls numbers : List ℕ) (u : ℕ) : Type 0 where
  pub class : u < length cls
  pub number : class_of cls u < length numbers
  pub counts : get_or numbers (class_of cls u) 0 ≡ trees_below (class_of cls) (class_of cls u)

-- the first n rows have a class each, which is one of them, and a number: how many trees appear first below the row
pub record Counted (n : ℕ) (cls numbers : List ℕ) : Type 0 where
  pub few : n ≤ 2048
  pub classes : n ≤ length cls
  pub numbered : n ≤ length numbers
  pub within : (u : ℕ) → u < n → class_of cls u < n
  pub each : (u : ℕ) → u < n → get_or numbers u 0 ≡ trees_below (class_of cls) u

-- no more inputs than any row has, each a row that has a number
pub record InputsThere (cls numbers inputs : List ℕ) (count : ℕ) : Type 0 where
  pub few : count ≤ widest
  pub each : (j : ℕ) → j < count → NumberThere cls numbers (get_or inputs j 0)

-- row u is a row of the sheet
pub record OfSheet (stored : ℕ) (table : List ℕ) (u : ℕ) : Type 0 where
  pub past : stored ≤ u
  pub within : u < stored + length table

-- the sheet's rows as the view of some store shows them, with their classes and numbers: the store itself changes while rows are put
pub record Seen (stored : ℕ) (b table cls numbers : List ℕ) : Type 0 where
  pub most : ℕ
  pub words : List ℕ
  pub view : Viewed (source most words stored b) table
  pub counted : Counted (stored + length table) cls numbers

-- there is room for every tree of the first n rows
pub record Roomy (most n : ℕ) (c : ℕ → ℕ) (w : List ℕ) : Type 0 where
  pub limit : most ≤ widest
  pub room : trees_below c n ≤ capacity_of most (length w)

-- the rows of a view are sorted, there is room for every tree of them and an answer for each sheet row: what is left is to write
pub record ToWrite (most : ℕ) (w b : List ℕ) (stored : ℕ) (table cls answers : List ℕ) : Type 0 where
  pub words : 0 < length w
  pub view : Viewed (source most w stored b) table
  pub long : stored + length table ≤ length cls
  pub sorted : Sorted (joined (source most w stored b)) (stored + length table) (class_of cls)
  pub roomy : Roomy most (stored + length table) (class_of cls) w
  pub answered : length table ≤ length answers
