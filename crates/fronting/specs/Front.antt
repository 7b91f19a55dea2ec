-- The whole front of an insert: the refusals of a sheet, its wires too, and what is known behind them; and that of an old sheet.
use Rattle.std.specs.Prelude.{ℕ, ◌≤◌, ◌≡◌, List, [], ◌∷◌, ◌++◌, length, take, Result, Ok, Err}
use Rattle.rules.specs.Lists.{firsts}
use Rattle.rules.specs.Refusals.{Refusal, ◌when◌, First}
use Rattle.sheet.specs.Format.{row_count_of, start}
use Rattle.sheet.specs.Points.{PointsNowhere}
use Rattle.sheet.specs.Refusals.{Readable}
use Rattle.sheet.specs.Front.{sheet_list, old_sheet_list}
use Rattle.sheet.specs.Faults.{fault_at}
use Rattle.sheet.specs.Read.{fault}
use Rattle.sheet.specs.declared.fault.Fault.{Fault}
use Rattle.rows.specs.Named.{ShortWire, SheetWireLoop}
use Rattle.wiring.specs.Told.{Ends}

-- 14 before 15
abbrev pub wire_list : List ℕ → List Refusal
wire_list b = (14 when ShortWire b) ∷ (15 when SheetWireLoop b) ∷ []

-- the refusals of a sheet: of its bytes, of where its inputs point, and of its wires
abbrev pub drawn_list : List ℕ → List Refusal
drawn_list b = sheet_list b ++ wire_list b

-- those of an old sheet, against the store it was drawn against, with so many rows in use
abbrev pub old_drawn_list : List ℕ → (stored : ℕ) → List Refusal
old_drawn_list b stored = old_sheet_list b stored ++ wire_list b

-- ---- inner

-- the bytes can be read, and every input points to a row of the sheet or of a store with so many
pub record Passed (b : List ℕ) (stored rows : ℕ) : Type 0 where
  pub numbered : rows ≡ row_count_of b
  pub readable : Readable b
  pub leads : PointsNowhere b stored → ⊥

-- 14 and 15 have passed, and the jumps say where the wires of each row lead
pub record Wired (b : List ℕ) (rows : ℕ) (jumps : List ℕ) : Type 0 where
  pub straight : ShortWire b → ⊥
  pub unlooped : SheetWireLoop b → ⊥
  pub ends : Ends b rows jumps

-- the front has passed, and the table says at its front where each row starts
pub record Fronting (b : List ℕ) (stored rows : ℕ) (table jumps : List ℕ) : Type 0 where
  pub passed : Passed b stored rows
  pub wired : Wired b rows jumps
  pub few : rows ≤ length table
  pub places : take rows table ≡ firsts (start b) rows

-- what the wires say alone: 14 or 15, or the front has passed
pub data ToldSays (b : List ℕ) (stored : ℕ) (table jumps : List ℕ) : Result ℕ Fault → Type 0 where
  told_refused : {r : ℕ} → First (wire_list b) r → (r ≡ 0 → ⊥) → ToldSays b stored table jumps (Err (fault r 0))
  told_rows : {rows : ℕ} → Fronting b stored rows table jumps → ToldSays b stored table jumps (Ok rows)

-- the answer by one of the two lists
pub data DrawnSays (l : List Refusal) (b : List ℕ) (stored : ℕ) (table jumps : List ℕ) : Result ℕ Fault → Type 0 where
  drawn_refused : {f : Fault} → First l f.number → (f.number ≡ 0 → ⊥) → f.place ≡ fault_at f.number b stored → DrawnSays l b stored table jumps (Err f)
  drawn_rows : {rows : ℕ} → Fronting b stored rows table jumps → DrawnSays l b stored table jumps (Ok rows)
