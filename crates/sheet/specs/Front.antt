-- The front of an insert: what reading the sheet and looking where its inputs point answers.
use Rattle.std.specs.Prelude.{ℕ, ◌≡◌, List, [], ◌∷◌, Some, Result, Ok, Err}
use Rattle.rules.specs.Refusals.{Refusal, ◌when◌, First, NoneOf}
use Rattle.sheet.specs.Format.{row_count_of}
use Rattle.sheet.specs.Points.{PointsNowhere, NamesStore, rows_point}
use Rattle.sheet.specs.Read.{most_inputs}
use Rattle.sheet.specs.Refusals.{WrongLength, WrongVersion, WrongRows, Readable}
use Rattle.sheet.specs.Faults.{fault_at}
use Rattle.sheet.specs.declared.fault.Fault.{Fault}

-- the refusals of a sheet: 19 wherever an input names a row of a store, and 6 for any other that is no row of the sheet
abbrev pub sheet_list : List ℕ → List Refusal
sheet_list b =
    (3 when WrongLength b) ∷ (4 when WrongVersion b) ∷ (5 when WrongRows (most_inputs b) b) ∷ (19 when NamesStore b) ∷ (6 when PointsNowhere b 0) ∷ []

-- those of an old sheet, whose inputs may name rows of the store it was drawn against, with so many rows in use
abbrev pub old_sheet_list : List ℕ → (stored : ℕ) → List Refusal
old_sheet_list b stored =
    (3 when WrongLength b) ∷ (4 when WrongVersion b) ∷ (5 when WrongRows (most_inputs b) b) ∷ (6 when PointsNowhere b stored) ∷ []

-- the answer by one of the two lists: the first refusal of it with the byte at which the fault starts, or the rows, with nothing of it wrong
pub data FrontSays (l : List Refusal) (b : List ℕ) (stored : ℕ) : Result ℕ Fault → Type 0 where
  front_refused : {f : Fault} → First l f.number → (f.number ≡ 0 → ⊥) → f.place ≡ fault_at f.number b stored → FrontSays l b stored (Err f)
  front_rows : {rows : ℕ} → rows ≡ row_count_of b → Readable b → (PointsNowhere b stored → ⊥) → NoneOf l → FrontSays l b stored (Ok rows)

-- ---- inner

-- 3, 4 and 5 have passed, and an input at a place, the first of the first row, points nowhere
pub record Astray (b : List ℕ) (rows place : ℕ) : Type 0 where
  pub readable : Readable b
  pub numbered : rows ≡ row_count_of b
  pub lost : rows_point b (row_count_of b) 0 (row_count_of b) 7 ≡ Some place
