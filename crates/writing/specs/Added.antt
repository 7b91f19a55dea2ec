-- Inner: what one row adds, whatever the store holds meanwhile.
use Rattle.std.specs.Prelude.{ℕ, ◌+◌, ◌≡◌, List, get_or}
use Rattle.store.specs.declared.row.Row.{Row}
use Rattle.rows.specs.Joined.{source, joined}
use Rattle.numbering.specs.Numbers.{row_number}
use Rattle.writing.specs.After.{new_row, rows_put}

-- an input of a row by value, as the number of its tree
abbrev pub numbered_input : (ℕ → ℕ) → List ℕ → ℕ → ℕ
numbered_input c inputs j = row_number c (get_or inputs j 0)

-- the row that is added for row u
pub record NewRowOf (stored : ℕ) (b : List ℕ) (c : ℕ → ℕ) (u : ℕ) (row : Row) : Type 0 where
  pub is : (most : ℕ) (w : List ℕ) → row ≡ new_row (joined (source most w stored b)) c u

-- words with the new ones of the first u rows put become words with row u put too, if it is new
pub record RowAdded (most stored : ℕ) (b : List ℕ) (c : ℕ → ℕ) (v v' : List ℕ) (u : ℕ) : Type 0 where
  pub added : (w : List ℕ) → v ≡ rows_put most (joined (source most w stored b)) c stored w u → v' ≡ rows_put most (joined (source most w stored b)) c stored w (u + 1)
