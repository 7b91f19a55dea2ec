-- Inner: rows that are each their own class.
use Rattle.std.specs.Prelude.{◌≡◌, ℕ, ◌<◌, List}
use Rattle.rounds.specs.Classes.{class_of}

pub record OwnClasses (rows : ℕ) (cls : List ℕ) : Type 0 where
  pub own : (u : ℕ) → u < rows → class_of cls u ≡ u
