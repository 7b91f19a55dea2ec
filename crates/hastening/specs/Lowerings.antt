-- Inner: names lowered, over arrays: the class of a row becomes the lowest row with its mark and name.
use Rattle.std.specs.Prelude.{ℕ, suc, ◌+◌, ◌≤◌, ◌<◌, ◌≡◌, List, length, set}
use Rattle.rounds.specs.Classes.{class_of, Stands}
use Rattle.names.specs.Naming.{Lowering}

-- links that are all 0
pub record Emptied (links : List ℕ) : Type 0 where
  pub long : length links ≡ 4096
  pub zeros : (k : ℕ) → class_of links k ≡ 0

-- names of rows, and marks of 0 or 1
pub record Lowerable (n : ℕ) (cls marks : List ℕ) : Type 0 where
  pub few : n ≤ 2048
  pub cls_long : n ≤ length cls
  pub marks_long : n ≤ length marks
  pub inside : (u : ℕ) → u < n → class_of cls u < n
  pub small : (u : ℕ) → u < n → class_of marks u ≤ 1

pub record LoweredFrom (n : ℕ) (old marks cls : List ℕ) : Type 0 where
  pub lowering : Lowering n (class_of old) (class_of marks) (class_of cls)
  pub stands : Stands n old cls

-- the first row with a key: row u itself where there was none
pub data FirstSays (links links' : List ℕ) (k u h : ℕ) : Type 0 where
  first_new : class_of links k ≡ 0 → links' ≡ set links k (u + 1) → h ≡ u → FirstSays links links' k u h
  first_old : class_of links k ≡ suc h → links' ≡ links → FirstSays links links' k u h
