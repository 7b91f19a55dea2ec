-- The rows of a converted sheet. g is a store and a sheet joined as drawn: the sheet's rows stand behind the stored ones.
use Rattle.std.specs.Prelude.{ℕ, ◌+◌, ◌<◌, List, ◌++◌, length}
use Rattle.rules.specs.Lists.{firsts}
use Rattle.trees.specs.Graph.{Graph}
use Rattle.trees.specs.Paths.{Leads}
use Rattle.walks.specs.Key.{keyed}
use Rattle.keys.specs.Bytes.{sheet_bytes}

-- row n of the store is reached from a row of the sheet
pub record FromSheet (g : Graph) (stored rows n : ℕ) : Type 0 where
  pub row : ℕ
  pub of_sheet : row < rows
  pub leads : Leads g (stored + row) n

-- row i of the sheet, as a row of g
abbrev pub behind : (stored i : ℕ) → ℕ
behind stored i = stored + i

-- the rows of the result, as rows of g: the sheet's own, then the store's that are reached
abbrev pub rising_inputs : (stored rows : ℕ) → List ℕ → List ℕ
rising_inputs stored rows l = firsts (behind stored) rows ++ l

-- the result: those rows as a sheet, each input as its place among them
unfoldable pub converted : Graph → (stored rows : ℕ) → List ℕ → List ℕ
converted g stored rows l = sheet_bytes (keyed g (rising_inputs stored rows l)) (length (rising_inputs stored rows l))
