-- The first n rows of a graph written as a sheet: the head, then each row with its label, input count and inputs, all big-endian.
use Rattle.std.specs.Prelude.{ℕ, zero, suc, ◌+◌, ◌*◌, ◌/◌, ◌%◌, ◌<◌, List, [], ◌∷◌, ◌++◌, length}
use Rattle.rules.specs.Lists.{widest}
use Rattle.trees.specs.Graph.{Graph}
use Rattle.sheet.specs.Bytes.{byte_at}
use Rattle.sheet.specs.Format.{most_rows}

unfoldable pub bytes16 : ℕ → List ℕ
bytes16 x = (x / 256) ∷ (x % 256) ∷ []

unfoldable pub bytes32 : ℕ → List ℕ
bytes32 x = bytes16 (x / 65536) ++ bytes16 (x % 65536)

-- the first n inputs of row k
unfoldable pub inputs_bytes : Graph → (k n : ℕ) → List ℕ
inputs_bytes g k zero = []
inputs_bytes g k (suc n) = inputs_bytes g k n ++ bytes16 (g.input k n)

unfoldable pub row_bytes : Graph → ℕ → List ℕ
row_bytes g k = bytes32 (g.label k) ++ (g.count k ∷ inputs_bytes g k (g.count k))

unfoldable pub rows_bytes : Graph → ℕ → List ℕ
rows_bytes g zero = []
rows_bytes g (suc n) = rows_bytes g n ++ row_bytes g n

unfoldable pub sheet_bytes : Graph → ℕ → List ℕ
sheet_bytes g n = bytes32 (3 + length (rows_bytes g n)) ++ (1 ∷ (bytes16 n ++ rows_bytes g n))

-- no sheet is longer: 7 bytes, and for each row 5 and two for each input
abbrev pub longest_sheet : ℕ
longest_sheet = 7 + most_rows * (5 + 2 * widest)

-- each entry of a list is a byte
abbrev pub EachByte : List ℕ → Type 0
EachByte b = (i : ℕ) → byte_at b i < 256
