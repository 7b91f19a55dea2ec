-- Converting an old sheet, beside the store that it was drawn against: the refusals in their order, and what done means.
use Rattle.std.specs.Prelude.{ℕ, ◌+◌, ◌≤◌, ◌<◌, ◌≡◌, List, [], ◌∷◌, ◌++◌, length}
use Rattle.rules.specs.Refusals.{Refusal, ◌when◌, First}
use Rattle.rules.specs.Writes.{over_front}
use Rattle.sheet.specs.Format.{row_count_of, most_rows}
use Rattle.sheet.specs.Points.{PointsNowhere}
use Rattle.sheet.specs.Refusals.{Readable}
use Rattle.sheet.specs.Faults.{fault_at}
use Rattle.store.specs.Layout.{in_use, room}
use Rattle.store.specs.Sound.{Sound}
use Rattle.rows.specs.Named.{ShortWire, SheetWireLoop}
use Rattle.fronting.specs.Together.{as_drawn}
use Rattle.fronting.specs.Front.{old_drawn_list}
use Rattle.converts.specs.Rising.{Rising}
use Rattle.converts.specs.Result.{FromSheet, converted}
use Rattle.converts.specs.declared.outcome.Converted.{Converted}

-- l has the store rows that some row of the sheet leads to, by rising number
pub record Appended (w b l : List ℕ) : Type 0 where
  pub rising : Rising (FromSheet (as_drawn w b) (in_use w) (row_count_of b)) (in_use w) l

-- the sheet's rows and then these, as a sheet of its own
abbrev pub result : (w b l : List ℕ) → List ℕ
result w b l = converted (as_drawn w b) (in_use w) (row_count_of b) l

-- 20: the sheet's rows and those appended are more than a sheet may have
pub record TooManyRows (w b : List ℕ) : Type 0 where
  pub rows : List ℕ
  pub appended : Appended w b rows
  pub over : most_rows < row_count_of b + length rows

-- 10: the buffer is shorter than the result
pub record ShortBuffer (w b out : List ℕ) : Type 0 where
  pub rows : List ℕ
  pub appended : Appended w b rows
  pub short : length out < length (result w b rows)

-- the refusals of the converter: those of the sheet by the rule it was drawn under
abbrev pub convert_refusals : (w b out : List ℕ) → List Refusal
convert_refusals w b out =
    (1 when (length w ≡ 0))
    ∷ (2 when (Sound room w → ⊥))
    ∷ (old_drawn_list b (in_use w) ++ ((20 when TooManyRows w b) ∷ (10 when ShortBuffer w b out) ∷ []))

-- done: the result at the front of the buffer, and nothing else
pub record ConvertDone (w b out out' : List ℕ) (bytes : ℕ) : Type 0 where
  pub words : 0 < length w
  pub sound : Sound room w
  pub readable : Readable b
  pub leads : PointsNowhere b (in_use w) → ⊥
  pub straight : ShortWire b → ⊥
  pub unlooped : SheetWireLoop b → ⊥
  pub rows : List ℕ
  pub appended : Appended w b rows
  pub few : row_count_of b + length rows ≤ most_rows
  pub long : length (result w b rows) ≤ length out
  pub written : out' ≡ over_front (result w b rows) out
  pub counted : bytes ≡ length (result w b rows)

-- every outcome: refused with the first number that applies and the byte at which the fault starts, and nothing changed; or done
pub data ConvertSays (w b out : List ℕ) : Converted → (out' : List ℕ) → Type 0 where
  says_refused : {r place : ℕ} → First (convert_refusals w b out) r → (r ≡ 0 → ⊥) → place ≡ fault_at r b (in_use w) → ConvertSays w b out (record { number = r; bytes = 0; place = place }) out
  says_done : {out' : List ℕ} {bytes : ℕ} → ConvertDone w b out out' bytes → ConvertSays w b out (record { number = 0; bytes = bytes; place = 0 }) out'

-- two outcomes of a conversion are the same: what is given back, and the buffers
pub record SameOutcome (r s : Converted) (x y : List ℕ) : Type 0 where
  pub given : r ≡ s
  pub buffer : x ≡ y
