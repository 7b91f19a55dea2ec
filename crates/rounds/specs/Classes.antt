-- Inner: classes of rows in an array, of which the first n entries count.
use Rattle.std.specs.Prelude.{ℕ, ◌≤◌, ◌≡◌, List, length, get_or}

-- the class of a row
abbrev pub class_of : List ℕ → ℕ → ℕ
class_of l u = get_or l u 0

-- entries from n on are as they were
pub record Stands (n : ℕ) (old cls : List ℕ) : Type 0 where
  pub same : length cls ≡ length old
  pub past : (i : ℕ) → n ≤ i → get_or cls i 0 ≡ get_or old i 0
