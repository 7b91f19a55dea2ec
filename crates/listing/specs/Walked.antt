-- Inner: what the parts of the walk ask and leave: the text stands in the lent bytes.
use Rattle.std.specs.Prelude.{ℕ, ◌+◌, ◌*◌, ◌≤◌, ◌<◌, ◌≡◌, List, length}
use Rattle.rules.specs.Writes.{Wrote}
use Rattle.listing.specs.Ran.{Took, RanWhole}

-- a sheet of a bundle, its place among them, and room for its line: nine bytes for each four of the sheet
pub record Room (place : ℕ) (sheet out : List ℕ) (used : ℕ) : Type 0 where
  pub low : place < 10000
  pub long : 4 ≤ length sheet
  pub room : 4 * used + 9 * length sheet ≤ 4 * length out

-- a done sheet has a head
pub record Headed (number : ℕ) (sheet : List ℕ) : Type 0 where
  pub head : number ≡ 0 → 7 ≤ length sheet

-- a sheet was inserted, and its line stands in the lent bytes
pub record TookLine (place : ℕ) (w sheet a w' a' out : List ℕ) (used : ℕ) (out' : List ℕ) (to : ℕ) : Type 0 where
  pub line : List ℕ
  pub took : Took place w sheet a w' a' line
  pub wrote : Wrote out used line out' to

-- the whole walk, and its text
pub record Walked (bundle w a out w' a' out' : List ℕ) (to : ℕ) : Type 0 where
  pub text : List ℕ
  pub ran : RanWhole bundle w a w' a' text
  pub wrote : Wrote out 0 text out' to
  pub fits : length text ≤ length out
