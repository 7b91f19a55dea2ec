-- The sheet file: the fields of its head, the fields of a row by the place where the row starts, and where row i starts.
use Rattle.std.specs.Prelude.{ℕ, zero, suc, ◌+◌, ◌*◌, List}
use Rattle.sheet.specs.Bytes.{byte_at, be16, be32}

-- bytes 0 to 3: how many bytes follow them; byte 4: version; bytes 5 and 6: row count
abbrev pub length_field : List ℕ → ℕ
length_field b = be32 b 0

abbrev pub version_of : List ℕ → ℕ
version_of b = byte_at b 4

abbrev pub row_count_of : List ℕ → ℕ
row_count_of b = be16 b 5

-- a row: label (4 bytes), input count (1 byte), each input (2 bytes)
abbrev pub label_at : List ℕ → ℕ → ℕ
label_at b at = be32 b at

abbrev pub count_at : List ℕ → ℕ → ℕ
count_at b at = byte_at b (at + 4)

abbrev pub input_place : ℕ → ℕ → ℕ
input_place at j = at + 5 + 2 * j

abbrev pub input_at : List ℕ → ℕ → ℕ → ℕ
input_at b at j = be16 b (input_place at j)

abbrev pub row_end : List ℕ → ℕ → ℕ
row_end b at = at + 5 + 2 * count_at b at

-- row 0 starts at byte 7, each further row where the row before it ends
unfoldable pub start : List ℕ → ℕ → ℕ
start b zero = 7
start b (suc i) = row_end b (start b i)

-- how many inputs the first n rows have
unfoldable pub inputs_in : List ℕ → ℕ → ℕ
inputs_in b zero = 0
inputs_in b (suc n) = inputs_in b n + count_at b (start b n)

-- rows a sheet may have, and the first number that is a row of the store and not of the sheet
abbrev pub most_rows : ℕ
most_rows = 1024

abbrev pub store_numbers : ℕ
store_numbers = 32768
