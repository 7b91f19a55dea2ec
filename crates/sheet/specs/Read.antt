-- Reading a sheet: rows are read one after another, and the first row that cannot be read ends the reading.
-- A refusal has its number of 01's table and the byte at which the fault starts.
use Rattle.std.specs.Prelude.{ℕ, zero, suc, ◌-◌, List, Bool, false, length, leb, ltb, eqb, Option, Some, None, Result, Ok, Err}
use Rattle.rules.specs.Pick.{pick}
use Rattle.sheet.specs.Format.{length_field, version_of, row_count_of, label_at, count_at, row_end, most_rows}
use Rattle.sheet.specs.declared.fault.Fault.{Fault}
use Rattle.sheet.specs.declared.row.RowRead.{RowRead}

-- a number of 01's table, and the byte at which the fault starts
abbrev pub fault : (number place : ℕ) → Fault
fault number place = record { number = number; place = place }

-- the most inputs a row may have in a version
unfoldable pub limit_of : ℕ → Option ℕ
limit_of v = pick (eqb v 1) (Some 4) None

abbrev pub most_of : Option ℕ → ℕ
most_of (Some most) = most
most_of None = 0

-- the most inputs that a row of a sheet may have
abbrev pub most_inputs : List ℕ → ℕ
most_inputs b = most_of (limit_of (version_of b))

-- a row can be read at a place where its inputs are within the limit and it ends within the file
unfoldable pub row_fits : List ℕ → ℕ → ℕ → Bool
row_fits b most at = pick (leb (count_at b at) most) (leb (row_end b at) (length b)) false

-- the row, or the byte at which the fault starts
unfoldable pub row_at : List ℕ → ℕ → ℕ → Result RowRead ℕ
row_at b most at = pick (row_fits b most at) (Ok (record { label = label_at b at; count = count_at b at; next = row_end b at })) (Err at)

-- the last n rows of the sheet, from a place: each readable, and the last one ends the file
unfoldable pub rows_from : List ℕ → ℕ → ℕ → ℕ → Result ℕ Fault
rows_from b most zero at = pick (eqb at (length b)) (Ok (row_count_of b)) (Err (fault 5 at))
rows_from b most (suc n) at = pick (row_fits b most at) (rows_from b most n (row_end b at)) (Err (fault 5 at))

-- with the version's limit: the row count, then the rows
unfoldable pub by_limit : List ℕ → Option ℕ → Result ℕ Fault
by_limit b None = Err (fault 4 4)
by_limit b (Some most) = pick (leb (row_count_of b) most_rows) (rows_from b most (row_count_of b) 7) (Err (fault 5 5))

-- the length field first, then the version, then the rows
unfoldable pub read_sheet : List ℕ → Result ℕ Fault
read_sheet b =
    pick (ltb (length b) 7) (Err (fault 3 0))
    (pick (eqb (length_field b) (length b - 4)) (by_limit b (limit_of (version_of b))) (Err (fault 3 0)))

-- 01's number of an answer, and the byte at which the fault starts (0 where there is none)
abbrev pub number_of : Result ℕ Fault → ℕ
number_of (Ok rows) = 0
number_of (Err f) = f.number

abbrev pub fault_of : Result ℕ Fault → ℕ
fault_of (Ok rows) = 0
fault_of (Err f) = f.place

-- how many rows are read: none where the sheet is refused
abbrev pub rows_of : Result ℕ Fault → ℕ
rows_of (Ok rows) = rows
rows_of (Err f) = 0
