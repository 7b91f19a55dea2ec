-- The number of the table that each answer on a sheet has, and its values. (A sheet that is read: `number_of`, `fault_of`, `rows_of` beside the reading.)
use Rattle.std.specs.Prelude.{ℕ, List, [], ◌∷◌, Option, Some, None, Result, Ok, Err}
use Rattle.sheet.specs.declared.fault.Fault.{Fault}
use Rattle.sheet.specs.declared.row.RowRead.{RowRead}

-- a version: the most inputs that a row may have
abbrev pub limit_number : Option ℕ → ℕ
limit_number (Some most) = 0
limit_number None = 4

abbrev pub limit_values : Option ℕ → List ℕ
limit_values (Some most) = most ∷ []
limit_values None = []

-- a row at a place: its label, its input count and where the next one starts; or the byte at which the fault starts, which is that place
abbrev pub row_read_number : Result RowRead ℕ → ℕ
row_read_number (Ok row) = 0
row_read_number (Err at) = 5

abbrev pub row_read_values : Result RowRead ℕ → List ℕ
row_read_values (Ok row) = row.label ∷ row.count ∷ row.next ∷ []
row_read_values (Err at) = at ∷ []

-- where the inputs point: nothing more; or the byte of the first that points nowhere
abbrev pub pointing_number : Option ℕ → ℕ
pointing_number None = 0
pointing_number (Some at) = 6

abbrev pub pointing_values : Option ℕ → List ℕ
pointing_values None = []
pointing_values (Some at) = at ∷ []

-- the front of an insert: how many rows the sheet has; or the byte at which the fault starts
abbrev pub front_number : Result ℕ Fault → ℕ
front_number (Err f) = f.number
front_number (Ok rows) = 0

abbrev pub front_values : Result ℕ Fault → List ℕ
front_values (Err f) = f.place ∷ []
front_values (Ok rows) = rows ∷ []
