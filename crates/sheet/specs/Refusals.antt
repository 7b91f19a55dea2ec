-- 01's numbers 3 to 5 of a sheet, in its words, and what a readable sheet is.
use Rattle.std.specs.Prelude.{ℕ, ◌≤◌, ◌<◌, ◌-◌, ◌≡◌, List, [], ◌∷◌, ◌⊎◌, length}
use Rattle.rules.specs.Refusals.{Refusal, ◌when◌}
use Rattle.sheet.specs.Format.{length_field, version_of, row_count_of, count_at, start, most_rows}
use Rattle.sheet.specs.Read.{most_inputs}

-- 3: under 7 bytes, or its length field is not its bytes less 4
abbrev pub WrongLength : List ℕ → Type 0
WrongLength b = (length b < 7) ⊎ (length_field b ≡ length b - 4 → ⊥)

-- 4: version is not 1
abbrev pub WrongVersion : List ℕ → Type 0
WrongVersion b = version_of b ≡ 1 → ⊥

-- a row with more inputs than the limit
pub record CrowdedRow (most : ℕ) (b : List ℕ) : Type 0 where
  pub row : ℕ
  pub of_sheet : row < row_count_of b
  pub crowded : most < count_at b (start b row)

-- 5: row count over 1,024, a row with more inputs than the limit, rows ending past the file or before its end
abbrev pub WrongRows : ℕ → List ℕ → Type 0
WrongRows most b = (most_rows < row_count_of b) ⊎ (CrowdedRow most b ⊎ (start b (row_count_of b) ≡ length b → ⊥))

abbrev pub sheet_refusals : List ℕ → List Refusal
sheet_refusals b = (3 when WrongLength b) ∷ (4 when WrongVersion b) ∷ (5 when WrongRows (most_inputs b) b) ∷ []

-- a readable sheet: none of these
pub record Readable (b : List ℕ) : Type 0 where
  pub long : 7 ≤ length b
  pub counted : length_field b ≡ length b - 4
  pub version : version_of b ≡ 1
  pub few : row_count_of b ≤ most_rows
  pub within : (i : ℕ) → i < row_count_of b → count_at b (start b i) ≤ most_inputs b
  pub whole : start b (row_count_of b) ≡ length b
