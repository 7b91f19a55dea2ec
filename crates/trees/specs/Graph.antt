-- A graph gives a row for each number: its label, how many inputs it has, and the row that each input is.
-- Inputs are counted from 0, left to right. A store, a sheet, the two joined, and a key read back are views as graphs.
use Rattle.std.specs.Prelude.{ℕ, ◌<◌}

pub record Graph : Type 0 where
  pub label : ℕ → ℕ
  pub count : ℕ → ℕ
  pub input : ℕ → ℕ → ℕ

-- inputs of the first n rows are among the first n rows (003, 1.12)
pub record Closed (g : Graph) (n : ℕ) : Type 0 where
  pub within : (u j : ℕ) → u < n → j < g.count u → g.input u j < n
