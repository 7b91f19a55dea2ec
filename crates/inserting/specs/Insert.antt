-- Inserting a sheet: the refusals in their order, and what done means.
use Rattle.std.specs.Prelude.{ℕ, ◌+◌, ◌≤◌, ◌<◌, ◌≡◌, List, [], ◌∷◌, ◌++◌, length}
use Rattle.rules.specs.Lists.{firsts}
use Rattle.rules.specs.Refusals.{Refusal, ◌when◌, First}
use Rattle.rules.specs.Writes.{over_front}
use Rattle.trees.specs.Sorting.{Sorted}
use Rattle.sheet.specs.Format.{row_count_of}
use Rattle.sheet.specs.Points.{PointsNowhere}
use Rattle.sheet.specs.Refusals.{Readable}
use Rattle.sheet.specs.Front.{sheet_list}
use Rattle.sheet.specs.Faults.{fault_at}
use Rattle.store.specs.Layout.{in_use, capacity_of, room}
use Rattle.store.specs.Sound.{Sound}
use Rattle.rows.specs.Named.{ShortWire, SheetWireLoop}
use Rattle.fronting.specs.Together.{together, all_rows}
use Rattle.fronting.specs.Front.{wire_list}
use Rattle.numbering.specs.Numbers.{trees_below}
use Rattle.writing.specs.After.{store_written, answer_of}
use Rattle.inserting.specs.declared.insertion.Inserted.{Inserted}

-- used rows plus new distinct trees exceed the capacity: c gives each row the first row with its tree
pub record NoRoom (w b : List ℕ) : Type 0 where
  pub class : ℕ → ℕ
  pub sorted : Sorted (together w b) (all_rows w b) class
  pub over : capacity_of room (length w) < trees_below class (all_rows w b)

-- the refusals of an insert
abbrev pub insert_refusals : (w b answers : List ℕ) → List Refusal
insert_refusals w b answers =
    (1 when (length w ≡ 0))
    ∷ (2 when (Sound room w → ⊥))
    ∷ (sheet_list b ++ (wire_list b ++ ((7 when (length answers < row_count_of b)) ∷ (8 when NoRoom w b) ∷ [])))

-- done: the new rows and the new count in the store, the rows' numbers at the front of the answer list, and nothing else
pub record InsertDone (w b answers w' answers' : List ℕ) (added : ℕ) : Type 0 where
  pub words : 0 < length w
  pub sound : Sound room w
  pub readable : Readable b
  pub leads : PointsNowhere b 0 → ⊥
  pub straight : ShortWire b → ⊥
  pub unlooped : SheetWireLoop b → ⊥
  pub long : row_count_of b ≤ length answers
  pub class : ℕ → ℕ
  pub sorted : Sorted (together w b) (all_rows w b) class
  pub fits : trees_below class (all_rows w b) ≤ capacity_of room (length w)
  pub stored : w' ≡ store_written room (together w b) class (in_use w) (all_rows w b) w
  pub answered : answers' ≡ over_front (firsts (answer_of class (in_use w)) (row_count_of b)) answers
  pub grown : in_use w + added ≡ trees_below class (all_rows w b)

-- every outcome: refused with the first number that applies and the byte at which the fault starts, nothing added and nothing changed; or done
pub data InsertSays (w b answers : List ℕ) : Inserted → (w' answers' : List ℕ) → Type 0 where
  says_refused : {r place : ℕ} → First (insert_refusals w b answers) r → (r ≡ 0 → ⊥) → place ≡ fault_at r b 0 → InsertSays w b answers (record { number = r; added = 0; place = place }) w answers
  says_done : {w' answers' : List ℕ} {added : ℕ} → InsertDone w b answers w' answers' added → InsertSays w b answers (record { number = 0; added = added; place = 0 }) w' answers'
