-- Inner: room for the longest runs: two of words, one of bytes and two of signed numbers.
use Rattle.std.specs.Prelude.{ℕ, ◌≤◌, List, length, ℤ}

pub record Rooms (words others buffer : List ℕ) (values output : List ℤ) : Type 0 where
  pub first : 8192 ≤ length words
  pub second : 8192 ≤ length others
  pub bytes : 65536 ≤ length buffer
  pub counts : 8192 ≤ length values
  pub results : 8192 ≤ length output
