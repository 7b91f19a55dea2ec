-- What checking a store tells those who go on: its flaw, or that it is sound with so many rows in use.
use Rattle.std.specs.Prelude.{ℕ, ◌<◌, ◌≡◌, List, [], ◌∷◌, length, Result, Ok, Err}
use Rattle.rules.specs.Refusals.{First}
use Rattle.store.specs.Layout.{in_use, room}
use Rattle.store.specs.Sound.{Sound, flaw_number}
use Rattle.store.specs.declared.shape.Flaw.{Flaw}
use Rattle.checking.specs.Check.{check_refusals}

-- a sound store with words and so many rows in use
pub record SoundStore (w : List ℕ) (rows : ℕ) : Type 0 where
  pub words : 0 < length w
  pub sound : Sound room w
  pub counted : rows ≡ in_use w

pub data CheckedSays (w : List ℕ) : Result ℕ Flaw → Type 0 where
  checked_refused : {flaw : Flaw} → First (check_refusals w) (flaw_number flaw) → (flaw_number flaw ≡ 0 → ⊥) → CheckedSays w (Err flaw)
  checked_rows : {rows : ℕ} → SoundStore w rows → CheckedSays w (Ok rows)

-- the number of the table that each answer has, and its values: the rows in use
abbrev pub checked_number : Result ℕ Flaw → ℕ
checked_number (Err flaw) = flaw_number flaw
checked_number (Ok rows) = 0

abbrev pub checked_values : Result ℕ Flaw → List ℕ
checked_values (Err flaw) = []
checked_values (Ok rows) = rows ∷ []
