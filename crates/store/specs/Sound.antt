-- A sound store: its shape, and that no two rows have the same tree.
use Rattle.std.specs.Prelude.{ℕ, ◌≤◌, ◌<◌, ◌≡◌, List, [], ◌∷◌, false, length, Result, Ok, Err}
use Rattle.trees.specs.Agreement.{Minimal}
use Rattle.wires.specs.Wires.{is_wire}
use Rattle.store.specs.Layout.{in_use, label_of, count_of, input_of, capacity_of, store_graph}
use Rattle.store.specs.declared.shape.Flaw.{Flaw}
use Rattle.store.specs.declared.shape.Flaw.TheVariants.{NoWords, Broken}

-- row n, in a store with so many rows in use: it is no wire, its input count is within the limit, each used input is below the rows in use, each unused input word is zero
pub record RowShaped (most : ℕ) (w : List ℕ) (rows n : ℕ) : Type 0 where
  pub plain : is_wire (label_of most w n) ≡ false
  pub few : count_of most w n ≤ most
  pub used : (j : ℕ) → j < count_of most w n → input_of most w n j < rows
  pub unused : (j : ℕ) → count_of most w n ≤ j → j < most → input_of most w n j ≡ 0

-- the same of one input word that the row has room for
pub record InputShaped (most : ℕ) (w : List ℕ) (rows n j : ℕ) : Type 0 where
  pub used : j < count_of most w n → input_of most w n j < rows
  pub unused : count_of most w n ≤ j → input_of most w n j ≡ 0

-- everything of sound but the last clause: the count is at most the capacity, and each row in use is shaped so
pub record Shaped (most : ℕ) (w : List ℕ) : Type 0 where
  pub fits : in_use w ≤ capacity_of most (length w)
  pub rows : (n : ℕ) → n < in_use w → RowShaped most w (in_use w) n

pub record Sound (most : ℕ) (w : List ℕ) : Type 0 where
  pub shaped : Shaped most w
  pub distinct : Minimal (store_graph most w) (in_use w)

-- the number of the table that each flaw has
abbrev pub flaw_number : Flaw → ℕ
flaw_number NoWords = 1
flaw_number Broken = 2

-- what the check of a shape answers: no words; words of another shape; or shaped, with so many rows in use
pub data ShapeSays (most : ℕ) (w : List ℕ) : Result ℕ Flaw → Type 0 where
  says_no_words : length w ≡ 0 → ShapeSays most w (Err NoWords)
  says_broken : 0 < length w → (Shaped most w → ⊥) → ShapeSays most w (Err Broken)
  says_rows : {rows : ℕ} → 0 < length w → rows ≡ in_use w → Shaped most w → ShapeSays most w (Ok rows)

-- the number of the table that each answer has, and its values: the rows in use
abbrev pub shape_number : Result ℕ Flaw → ℕ
shape_number (Err flaw) = flaw_number flaw
shape_number (Ok rows) = 0

abbrev pub shape_values : Result ℕ Flaw → List ℕ
shape_values (Err flaw) = []
shape_values (Ok rows) = rows ∷ []
