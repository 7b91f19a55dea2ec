-- The program's lines, as bytes.
use Rattle.std.specs.Prelude.{ℕ, List, [], ◌∷◌, ◌++◌, eqb}
use Rattle.rules.specs.Pick.{pick}
use Rattle.text.specs.Decimal.{decimal, spaced}
use Rattle.sheet.specs.Format.{row_count_of}

-- a sheet's line: its place, the number given back, the rows added, and the rows' numbers, with one space between; then a newline
unfoldable pub line_of : (place number added : ℕ) → (rows : List ℕ) → List ℕ
line_of place number added rows = decimal place ++ spaced (number ∷ added ∷ rows) ++ (10 ∷ [])

-- the line as far as every sheet has it, before the rows' numbers
abbrev pub head_of : (place number added : ℕ) → List ℕ
head_of place number added = decimal place ++ spaced (number ∷ added ∷ [])

-- how many rows have their numbers told: those of the sheet if done, else none
unfoldable pub rows_told : (number : ℕ) → (sheet : List ℕ) → ℕ
rows_told number sheet = pick (eqb number 0) (row_count_of sheet) 0

-- `rest N`, where N bytes are left over
abbrev pub rest_word : List ℕ
rest_word = 114 ∷ 101 ∷ 115 ∷ 116 ∷ 32 ∷ []

unfoldable pub rest_line : ℕ → List ℕ
rest_line n = pick (eqb n 0) [] (rest_word ++ decimal n ++ (10 ∷ []))

-- `long`
abbrev pub long_line : List ℕ
long_line = 108 ∷ 111 ∷ 110 ∷ 103 ∷ 10 ∷ []
