-- The strict insert: its refusals in their order, and what done means.
use Rattle.std.specs.Prelude.{ℕ, ◌<◌, ◌≡◌, List, [], ◌∷◌, ◌++◌, length}
use Rattle.rules.specs.Refusals.{Refusal, ◌when◌, First}
use Rattle.trees.specs.Agreement.{SameTree}
use Rattle.sheet.specs.Format.{row_count_of}
use Rattle.sheet.specs.Points.{PointsNowhere}
use Rattle.sheet.specs.Refusals.{Readable}
use Rattle.sheet.specs.Front.{sheet_list}
use Rattle.sheet.specs.Faults.{fault_at}
use Rattle.store.specs.Layout.{room}
use Rattle.store.specs.Sound.{Sound}
use Rattle.rows.specs.Named.{ShortWire, SheetWireLoop}
use Rattle.fronting.specs.Front.{wire_list}
use Rattle.loops.specs.Catalogue.{Unlisted}
use Rattle.loops.specs.Loops.{Unheld}
use Rattle.inserting.specs.Insert.{NoRoom, InsertDone}
use Rattle.keys.specs.Sheets.{sheet_graph}
use Rattle.duties.specs.Words.{sheet_trees}
use Rattle.inserting.specs.declared.insertion.Inserted.{Inserted}

-- 12: a row of the sheet leads to a row of a free operation or with a wrong input count
pub record SheetUnlisted (b : List ℕ) : Type 0 where
  pub row : ℕ
  pub of_sheet : row < row_count_of b
  pub unlisted : Unlisted (sheet_graph b) row

-- 13: a row of the sheet leads to a loop without a hold
pub record SheetUnheld (b : List ℕ) : Type 0 where
  pub row : ℕ
  pub of_sheet : row < row_count_of b
  pub unheld : Unheld (sheet_graph b) row

abbrev pub verdicts : List ℕ → List Refusal
verdicts b = (12 when SheetUnlisted b) ∷ (13 when SheetUnheld b) ∷ []

-- the refusals of a strict insert: 12 and 13 after those of the sheet and its wires, and before 7 and 8
abbrev pub strict_refusals : (w b answers : List ℕ) → List Refusal
strict_refusals w b answers =
    (1 when (length w ≡ 0))
    ∷ (2 when (Sound room w → ⊥))
    ∷ (sheet_list b ++ (wire_list b ++ (verdicts b ++ ((7 when (length answers < row_count_of b)) ∷ (8 when NoRoom w b) ∷ []))))

-- every outcome: refused with the first number that applies and the byte at which the fault starts, nothing added and nothing changed; or done as the plain insert is
pub data StrictSays (w b answers : List ℕ) : Inserted → (w' answers' : List ℕ) → Type 0 where
  strict_refused : {r place : ℕ} → First (strict_refusals w b answers) r → (r ≡ 0 → ⊥) → place ≡ fault_at r b 0
      → StrictSays w b answers (record { number = r; added = 0; place = place }) w answers
  strict_done : {w' answers' : List ℕ} {added : ℕ} → First (strict_refusals w b answers) 0 → InsertDone w b answers w' answers' added
      → StrictSays w b answers (record { number = 0; added = added; place = 0 }) w' answers'

-- ---- the words in which the verdict is said to depend only on the trees

-- a sheet can be judged: it can be read, its inputs are all rows of it, each of its wires has one input, and no wires are a loop
pub record Judgeable (b : List ℕ) : Type 0 where
  pub readable : Readable b
  pub leads : PointsNowhere b 0 → ⊥
  pub straight : ShortWire b → ⊥
  pub unlooped : SheetWireLoop b → ⊥

-- the tree of row i of a sheet, read with wires skipped, is that of a row of another sheet
pub record TreeAmong (b d : List ℕ) (i : ℕ) : Type 0 where
  pub row : ℕ
  pub of_sheet : row < row_count_of d
  pub tree : SameTree (sheet_trees b) i (sheet_trees d) row

-- so is the tree of each row of the sheet
pub record TreesAmong (b d : List ℕ) : Type 0 where
  pub each : (i : ℕ) → i < row_count_of b → TreeAmong b d i
