-- Inner: a row is a member of a list of rows when it stands at a place of it.
use Rattle.std.specs.Prelude.{ℕ, ◌<◌, ◌≡◌, List, length, get_or}

pub record Member (l : List ℕ) (x : ℕ) : Type 0 where
  pub at : ℕ
  pub within : at < length l
  pub here : get_or l at 0 ≡ x
